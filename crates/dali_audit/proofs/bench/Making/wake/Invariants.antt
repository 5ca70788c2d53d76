use Rattle.std.proofs.Common.{◌≡◌}
use Rattle.dali_audit.specs.Frames.{frames_of}
use Rattle.dali_audit.proofs.bench.Making.wake.Given as goal

abbrev pub invariant-loop-gear : goal.invariant-loop-gear
invariant-loop-gear l = frames_of l.self.steps.items ≡ frames_of l.fn.self.steps.items
