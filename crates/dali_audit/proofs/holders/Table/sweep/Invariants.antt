use Rattle.std.proofs.Common.{◌≡◌, ◌++◌, take, drop, map, length}
use Rattle.dali_audit.specs.Holders.{swept}
use Rattle.dali_audit.proofs.holders.Table.sweep.Given as goal

abbrev pub invariant-loop-number : goal.invariant-loop-number
invariant-loop-number l = record {
  swept : take l.number l.self-inside.holders ++ map (swept l.change) (drop l.number l.fn.self) ≡ map (swept l.change) l.fn.self;
  untouched : drop l.number l.self-inside.holders ≡ drop l.number l.fn.self;
  len : length l.self-inside.holders ≡ 64;
}
