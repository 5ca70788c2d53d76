use Rattle.std.proofs.Common.{◌≡◌, ◌≤◌, length}
use Rattle.dali_commission_said.specs.Reports.{heard_below}
use Rattle.dali_commission_said.proofs.report.heard_of.Given as goal

abbrev pub invariant-loop-number : goal.invariant-loop-number
invariant-loop-number l = record {
  so_far : l.numbers.items ≡ heard_below l.number l.heard;
  few : length l.numbers.items ≤ l.number;
}
