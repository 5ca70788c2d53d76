use Rattle.std.proofs.Common.{◌≡◌, drop}
use Rattle.dali_story.specs.Stances.{stands_after_all, stance_of}
use Rattle.dali_story.proofs.stances.stance_of.Given as goal

abbrev pub invariant-loop-event : goal.invariant-loop-event
invariant-loop-event l = stands_after_all l.c l.stance (drop l.event-index l.log) ≡ stance_of l.c l.log
