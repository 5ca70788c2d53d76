use Rattle.std.proofs.Common.{sym, ◌∙◌}
use Rattle.dali_controller.proofs.state.State.ungiven.Goals as goal

pub returns-else-may_draw : goal.returns-else-may_draw
returns-else-may_draw c = rw (sym c.may_draw.ensures ∙ c.if-may_draw.false) c.full.ensures
