use Rattle.std.proofs.Common.{sym, ap, ◌∙◌, ◌++◌, append-nil}
use Rattle.dali_standing.proofs.Rows.{none_stored}
use Rattle.dali_standing.proofs.fitted.note_gifts.Goals as goal

pub returns-in_default-clause-gifts : goal.returns-in_default-clause-gifts
returns-in_default-clause-gifts c =
    sym (ap (λ more. c.args.gifts.now.items ++ more) (none_stored c.args.reach.now _ 0 c.args.gear.now (λ s is. c.in_default.not-Program s is)) ∙ append-nil _)
