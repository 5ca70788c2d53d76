use Rattle.std.proofs.Common.{sym, ◌∙◌}
use Rattle.dali_controller.proofs.state.State.undrawn.Goals as goal

pub returns-then-not-has_open : goal.returns-then-not-has_open
returns-then-not-has_open c = rw (sym c.has_open.ensures ∙ c.if-not-has_open.true) c.full.ensures
