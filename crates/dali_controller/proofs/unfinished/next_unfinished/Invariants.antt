use Rattle.std.specs.Prelude.{◌≡◌, ◌-◌}
use Rattle.dali_controller.specs.Course.{unfinished_among, next_unfinished}
use Rattle.dali_controller.proofs.unfinished.next_unfinished.Given as goal

abbrev pub invariant-loop-address : goal.invariant-loop-address
invariant-loop-address l = next_unfinished l.kept l.fn.from ≡ unfinished_among l.kept (64 - l.address) l.address
