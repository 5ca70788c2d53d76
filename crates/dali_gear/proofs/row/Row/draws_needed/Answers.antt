use Rattle.std.proofs.Common.{sym}
use Rattle.dali_gear.proofs.RowLemmas.{needs_none}
use Rattle.dali_gear.proofs.row.Row.draws_needed.Goals as goal

pub returns-in_default : goal.returns-in_default
returns-in_default c = sym (needs_none c.args.reach _ 0 c.args.self.now (λ is. c.in_default.not-Randomise is))
