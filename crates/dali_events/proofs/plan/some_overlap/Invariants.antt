use Rattle.std.proofs.Common.{◌≡◌, drop}
use Rattle.dali_events.specs.Plan.{any_pair, overlap}
use Rattle.dali_events.proofs.plan.some_overlap.Given as goal

abbrev pub invariant-loop-i : goal.invariant-loop-i
invariant-loop-i l = any_pair overlap (drop l.i l.blocks) ≡ any_pair overlap l.fn.blocks
