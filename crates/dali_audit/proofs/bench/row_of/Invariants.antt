use Rattle.std.proofs.Common.{◌≡◌, drop, length}
use Rattle.dali_audit.specs.Bench.{placed, gear_at_first}
use Rattle.dali_audit.proofs.bench.row_of.Given as goal

abbrev pub invariant-loop-number : goal.invariant-loop-number
invariant-loop-number l = record {
  placed : placed l.number (drop l.number l.places) l.row ≡ gear_at_first l.places;
  len : length l.row ≡ length l.places;
}
