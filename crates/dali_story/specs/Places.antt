use Rattle.std.specs.Prelude.{◌≡◌, ℕ, ◌-◌, List, length, ◌==◌, if◌then◌else◌}
use Rattle.dali_frame.specs.declared.frames.Forward.{Forward}
use Rattle.dali_frame.specs.declared.frames.Answer.{Answer}
use Rattle.dali_gear.specs.declared.gear_set.GearSet.{GearSet}
use Rattle.dali_events.specs.declared.event.Event.{Event}
use Rattle.dali_events.specs.declared.event.Event.TheVariants as event
use Rattle.dali_events.specs.Plan.{Plan}
use Rattle.dali_events.specs.World.{World}
use Rattle.dali_events.specs.Happens.{trace_running}
use Rattle.dali_events.specs.Allowed.{Allowed}
use Rattle.dali_events.specs.Runs.{IsRun, after}
use Rattle.dali_story.specs.declared.transactions.Running.{Running}
use Rattle.dali_story.specs.RunGear.{Moment}
use Rattle.dali_story.specs.Teller.{Told, counts_first, counts_after, told_after_all}
use Rattle.dali_story.specs.Transactions.{counted}

-- THE PLACE OF A FRAME in its transaction, as it is told, is what stands on the site.

-- the transaction that is told last, and that of one more event
abbrev pub told_first : Moment → Told
told_first m = record { counts = counts_first; moment = m }

abbrev pub running_told : Moment → List Event → Running
running_told m log = (told_after_all log (told_first m)).counts.running

abbrev pub running_with : Moment → List Event → Event → Running
running_with m log e = (counts_after e (told_after_all log (told_first m)).counts).running

-- A frame of controller c: its place is how many frames the trace has that it goes on with. It
-- begins a transaction exactly if there are none, and that has the next number.
pub record IsPlaced (w : World) (c : ℕ) (was is : Running) : Type 0 where
  pub place : is.frames - 1 ≡ length (trace_running w c)
  pub number : is.begun
      ≡ (if length (trace_running w c) == 0 then counted was.begun 1 else was.begun)

-- Of each run, and of each frame that is sent or destroyed then. The gear do not matter.
pub record PlacesAreThoseOfTraces : Type 0 where
  pub sent : (p : Plan) (capacity : ℕ) (log : List Event) (m : Moment) (c : ℕ) (f : Forward)
      (h : Answer) → IsRun p capacity log → Allowed (after p capacity log) (event.Sent c f h)
      → IsPlaced (after p capacity log) c (running_told m log)
      (running_with m log (event.Sent c f h))
  pub destroyed : (p : Plan) (capacity : ℕ) (log : List Event) (m : Moment) (c : ℕ) (f : Forward)
      (set : GearSet) → IsRun p capacity log
      → Allowed (after p capacity log) (event.Destroyed c f set)
      → IsPlaced (after p capacity log) c (running_told m log)
      (running_with m log (event.Destroyed c f set))
