use Rattle.std.specs.Prelude.{◌≡◌, ◌+◌, ◌-◌}
use Rattle.dali_controller.specs.Course.{open_among, least_open}
use Rattle.dali_controller.proofs.surveying.least_open.Given as goal

abbrev pub invariant-loop-number : goal.invariant-loop-number
invariant-loop-number l = least_open l.kept l.heard ≡ open_among l.kept l.heard (l.kept.block.last + 1 - l.number) l.number
