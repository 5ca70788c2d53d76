use Rattle.std.proofs.Common.{◌≡◌, drop}
use Rattle.dali_events.specs.Used.{with_used}
use Rattle.dali_story.proofs.run_gear.place.Given as goal

abbrev pub invariant-loop-one : goal.invariant-loop-one
invariant-loop-one l = with_used l.gear (drop l.one-index l.used) ≡ with_used l.fn.gear l.used
