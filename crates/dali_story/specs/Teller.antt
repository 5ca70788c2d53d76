use Rattle.std.specs.Prelude.{ℕ, List, [], ◌∷◌, ◌++◌, Option, Some, None, codes}
use Rattle.dali_frame.specs.declared.frames.Answer.{Answer}
use Rattle.dali_frame.specs.declared.frames.Answer.TheVariants.{Silence, Byte, Damaged}
use Rattle.dali_gear.specs.Gear.{Gear}
use Rattle.dali_events.specs.declared.event.Event.{Event}
use Rattle.dali_events.specs.declared.event.Event.TheVariants as event
use Rattle.dali_events.specs.Events.{heard_in}
use Rattle.dali_story.specs.declared.teller.Counts.{Counts}
use Rattle.dali_story.specs.Transactions.{counted, running_after, none_runs}
use Rattle.dali_story.specs.RunGear.{Moment, befallen}
use Rattle.dali_story.specs.Events.{opening, kind_of, members, trouble_of, changed_by}

-- A FOLD OVER THE LOG: what is counted so far, and the gear.

-- frames of controllers that come on the bus by an event, whole or not: two that collide are one
abbrev pub frames_in : Event → ℕ
frames_in (event.Sent c f h) = 1
frames_in (event.Destroyed c f set) = 1
frames_in (event.Collided c f d g) = 1
frames_in (event.Acted c i o) = 0
frames_in (event.Offered c f) = 0
frames_in event.Lapsed = 0
frames_in event.Quiet = 0
frames_in (event.Foreign f) = 0
frames_in (event.Power g on) = 0
frames_in (event.Expired g) = 0
frames_in (event.Down c) = 0
frames_in (event.Up c kept) = 0

-- bit times of a forward frame that was sent whole, and of a backward frame if one was heard
-- (101, frames)
abbrev pub bits_with : Option Answer → ℕ
bits_with None = 0
bits_with (Some Silence) = 19
bits_with (Some (Byte b)) = 30
bits_with (Some Damaged) = 30

abbrev pub counts_after : Event → Counts → Counts
counts_after e n = record {
  events = counted n.events 1;
  frames = counted n.frames (frames_in e);
  bits = counted n.bits (bits_with (heard_in e));
  running = running_after e n.running;
}

abbrev pub counts_first : Counts
counts_first = record { events = 0; frames = 0; bits = 0; running = none_runs }

-- ---------------------------------------------------------------- the line of an event

-- by its number, what is counted with it, what gear answer to its frame, and the gear before and
-- after it
unfoldable pub event_line : ℕ → Event → Counts → Answer → List Gear → List Gear → List ℕ
event_line number e n plain was is =
    opening number (kind_of e) n.bits
    ++ (members e n.running was
    ++ (trouble_of e plain ++ (changed_by e was is ++ codes "}\n")))

-- WHAT IS TOLD so far
pub record Told : Type 0 where
  pub counts : Counts
  pub moment : Moment

abbrev pub told_after : Event → Told → Told
told_after e t = record { counts = counts_after e t.counts; moment = (befallen e t.moment).0 }

abbrev pub event_text : Event → Told → List ℕ
event_text e t =
    event_line t.counts.events e (counts_after e t.counts) (befallen e t.moment).1 t.moment.gear
    (befallen e t.moment).0.gear

-- of events, one after the other
abbrev pub told_after_all : List Event → Told → Told
told_after_all [] t = t
told_after_all (e ∷ es) t = told_after_all es (told_after e t)

abbrev pub events_text : List Event → Told → List ℕ
events_text [] t = []
events_text (e ∷ es) t = event_text e t ++ events_text es (told_after e t)
