use Rattle.std.proofs.Common.{◌≡◌, ◌<◌, ◌≤◌, drop, length, All}
use Rattle.dali_frame.specs.Random.{MASK24}
use Rattle.dali_audit.specs.Comparing.{compared}
use Rattle.dali_audit.proofs.comparing.compare.Given as goal

abbrev pub invariant-loop-at : goal.invariant-loop-at
invariant-loop-at l = record {
  compared : compared l.at (drop l.at l.steps) l.left l.row ≡ compared 0 l.steps l.draws l.fn.row;
  fewer : length l.left ≤ length l.draws;
  below_mask : All (λ r. r < MASK24) l.left;
}
