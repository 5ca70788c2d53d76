use Rattle.std.specs.Prelude.{◌≡◌, ◌-◌}
use Rattle.dali_controller.specs.Course.{asked_among, next_asked}
use Rattle.dali_controller.proofs.surveying.next_asked.Given as goal

abbrev pub invariant-loop-address : goal.invariant-loop-address
invariant-loop-address l = next_asked l.kept l.fn.from ≡ asked_among l.kept (64 - l.address) l.address
