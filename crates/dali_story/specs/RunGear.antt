use Rattle.std.specs.Prelude.{ℕ, List, [], length, drop, map, replicate, min, Bool, nat_le, nat_lt}
use Rattle.std.specs.Prelude.{if◌then◌else◌}
use Rattle.std.specs.List.{list_all}
use Rattle.dali_frame.specs.Random.{MASK24}
use Rattle.dali_frame.specs.declared.frames.Answer.{Answer}
use Rattle.dali_frame.specs.declared.frames.Answer.TheVariants.{Silence}
use Rattle.dali_special.specs.declared.command.Command.{Command}
use Rattle.dali_special.specs.Command.{command_of}
use Rattle.dali_gear.specs.declared.row.Reach.{Reach}
use Rattle.dali_gear.specs.declared.row.Reach.TheVariants.{Everyone, Only}
use Rattle.dali_gear.specs.Gear.{Gear, fresh, gear_expired, gear_quieted}
use Rattle.dali_gear.specs.Row.{row_after, draws_needed, answers_of, heard_of}
use Rattle.dali_events.specs.declared.event.Event.{Event}
use Rattle.dali_events.specs.declared.event.Event.TheVariants as event
use Rattle.dali_events.specs.declared.used.Used.{Used}
use Rattle.dali_events.specs.World.{gear_changed}
use Rattle.dali_events.specs.Foreign.{is_foreign}
use Rattle.dali_events.specs.Used.{with_used}
use Rattle.dali_events.specs.Happens.{gear_powered, gear_interrupted}

-- THE GEAR OF A RUN, event by event, as in a world.

-- the gear, and the numbers that are left to be drawn
pub record Moment : Type 0 where
  pub gear : List Gear
  pub left : List ℕ

-- At first: so many gear, at most 128, all but the used ones from the factory. They draw these
-- numbers, of which none is FFFFFF in a run that was played.
abbrev pub drawable : List ℕ → List ℕ
drawable draws = if list_all (λ r. nat_lt r MASK24) draws then draws else []

abbrev pub gear_first : ℕ → List Used → List Gear
gear_first count used = with_used (replicate (min count 128) fresh) used

abbrev pub moment_first : ℕ → List Used → List ℕ → Moment
moment_first count used draws =
    record { gear = gear_first count used; left = drawable draws }

-- A frame reaches gear, and what they answer. Nothing comes of it if too few numbers are left
-- for those that draw, as never in a run that was played.
abbrev pub taken : Reach → Command → Moment → Moment × Answer
taken reach x m = (
  record {
    gear = row_after reach x 0 m.gear m.left;
    left = drop (draws_needed reach x 0 m.gear) m.left;
  },
  heard_of (answers_of reach x 0 m.gear),
)

abbrev pub after_frame : Reach → Command → Moment → Moment × Answer
after_frame reach x m =
    if nat_le (draws_needed reach x 0 m.gear) (length m.left)
    then taken reach x m else (m, Silence)

-- a frame of another device, of those that may come
abbrev pub after_foreign : Bool → List Gear → List Gear
after_foreign may gear = if may then map gear_interrupted gear else gear

-- WHAT AN EVENT DOES TO THE GEAR, and what they answer to its frame: a destroyed frame reaches
-- those of its set alone, and two that collide reach no gear.
abbrev pub befallen : Event → Moment → Moment × Answer
befallen (event.Sent c f h) m = after_frame Everyone (command_of f) m
befallen (event.Destroyed c f set) m = after_frame (Only set) (command_of f) m
befallen (event.Power g on) m =
    (record m { gear = gear_changed m.gear g (gear_powered on) }, Silence)
befallen (event.Expired g) m = (record m { gear = gear_changed m.gear g gear_expired }, Silence)
befallen event.Quiet m = (record m { gear = map gear_quieted m.gear }, Silence)
befallen (event.Foreign f) m =
    (record m { gear = after_foreign (is_foreign f) m.gear }, Silence)
befallen (event.Collided c f d g) m = (m, Silence)
befallen (event.Acted c i o) m = (m, Silence)
befallen (event.Offered c f) m = (m, Silence)
befallen event.Lapsed m = (m, Silence)
befallen (event.Down c) m = (m, Silence)
befallen (event.Up c kept) m = (m, Silence)
