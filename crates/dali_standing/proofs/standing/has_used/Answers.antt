use Rattle.std.proofs.Common.{sym, subst, ◌∙◌}
use Rattle.dali_script.specs.declared.{orders.Order.TheVariants.Commit, records.Record.Record}
use Rattle.dali_standing.{specs.Seats.ReservesUsed, proofs.InUse.in_use}
use Rattle.dali_standing.proofs.standing.has_used.Goals as goal

pub returns-in-Reserve-clause-yes : goal.returns-in-Reserve-clause-yes
returns-in-Reserve-clause-yes c is =
    subst (λ (x : Record). ReservesUsed c.args.used.now (Commit x)) (sym c.in-Reserve.is)
    (in_use c.args.used.now c.in-Reserve.short (sym c.is_in_use.ensures ∙ is))
