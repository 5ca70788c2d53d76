use Rattle.std.proofs.Common.{◌≡◌, ◌+◌, ◌≤◌, drop}
use Rattle.dali_world.specs.Site.{share_of}
use Rattle.dali_line.proofs.count.steps.Given as goal

abbrev pub invariant-loop-event : goal.invariant-loop-event
invariant-loop-event l = (l.count + share_of l.controller (drop l.event-index l.log) ≡ share_of l.controller l.log) × (l.count ≤ l.event-index)
