use Rattle.std.proofs.Common.{◌≡◌, drop, length, replicate}
use Rattle.dali_gear.specs.Gear.{fresh}
use Rattle.dali_events.specs.Used.{with_used}
use Rattle.dali_events.proofs.plan.Plan.row.Given as goal

abbrev pub invariant-loop-used : goal.invariant-loop-used
invariant-loop-used l = record {
  placed : with_used l.row (drop l.used-index l.fn.self.used) ≡ with_used (replicate l.fn.self.gear fresh) l.fn.self.used;
  count : length l.row ≡ l.fn.self.gear;
}
