use Rattle.std.proofs.Common.{◌≡◌, ◌+◌, ◌++◌, length, None}
use Rattle.dali_audit.specs.Frames.{frames_of, frames_in}
use Rattle.dali_audit.proofs.bench.Making.take_all.Given as goal

abbrev pub invariant-loop-rest : goal.invariant-loop-rest
invariant-loop-rest l = record {
  frames :
      frames_of l.self.steps.items ++ frames_in l.before l.rest
      ≡ frames_of l.fn.self.steps.items ++ frames_in None l.items;
  count : l.number + length l.rest ≡ length l.items;
}

abbrev pub decreases-loop-rest : goal.decreases-loop-rest
decreases-loop-rest l = length l.rest
