use Rattle.std.proofs.Common.{◌≡◌, drop, ◌==◌}
use Rattle.dali_events.specs.Plan.{any_pair}
use Rattle.dali_events.proofs.plan.some_twice.Given as goal

abbrev pub invariant-loop-i : goal.invariant-loop-i
invariant-loop-i l = any_pair (λ draw other. draw == other) (drop l.i l.draws) ≡ any_pair (λ draw other. draw == other) l.fn.draws
