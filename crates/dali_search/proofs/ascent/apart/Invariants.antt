use Rattle.std.proofs.Common.{◌≡◌, ◌+◌, ◌-◌, ◌≤◌}
use Rattle.dali_search.specs.Ascending.{apart_below}
use Rattle.dali_search.proofs.ascent.apart.Given as goal

abbrev pub invariant-loop : goal.invariant-loop
invariant-loop l = record {
  counted : l.bits + apart_below (24 - l.counter) l.one l.other ≡ apart_below 24 l.one-2 l.other-2;
  few : l.bits ≤ l.counter;
}
