use Rattle.std.proofs.Common.{◌≡◌, ◌+◌, ◌≤◌, drop}
use Rattle.dali_line.specs.Counts.{others_of}
use Rattle.dali_line.proofs.count.others.Given as goal

abbrev pub invariant-loop-event : goal.invariant-loop-event
invariant-loop-event l = (l.count + others_of (drop l.event-index l.log) ≡ others_of l.log) × (l.count ≤ l.event-index)
