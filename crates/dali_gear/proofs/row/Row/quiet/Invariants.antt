use Rattle.std.proofs.Common.{◌≡◌, ◌++◌, take, drop, map, length}
use Rattle.dali_gear.specs.Gear.{gear_quieted}
use Rattle.dali_gear.proofs.row.Row.quiet.Given as goal

abbrev pub invariant-loop-number : goal.invariant-loop-number
invariant-loop-number l = record {
  quiet : take l.number l.self ++ map gear_quieted (drop l.number l.fn.self) ≡ map gear_quieted l.fn.self;
  untouched : drop l.number l.self ≡ drop l.number l.fn.self;
  len : length l.self ≡ length l.fn.self;
}
