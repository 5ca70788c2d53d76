use Rattle.std.proofs.Common.{sym, ◌∙◌, ap, ◌==◌}
use Rattle.dali_controller.proofs.state.State.nobody_left.Goals as goal

pub returns-then-found-eq0 : goal.returns-then-found-eq0
returns-then-found-eq0 c = rw (ap (λ n. n == 0) (sym c.requires.found ∙ c.if-found-eq0.true)) c.undrawn.ensures
