use Rattle.std.proofs.Common.{◌≡◌, ◌≤◌, length}
use Rattle.dali_commission_said.specs.Tables.{rows_below}
use Rattle.dali_commission_said.proofs.table.rows.Given as goal

abbrev pub invariant-loop-number : goal.invariant-loop-number
invariant-loop-number l = record {
  so_far : l.rows.items ≡ rows_below l.number l.kept.enrolled;
  few : length l.rows.items ≤ l.number;
}
