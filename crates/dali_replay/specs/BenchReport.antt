use Rattle.std.specs.Prelude.{ℕ, List, [], ◌∷◌, ◌++◌, Option, Some, None, length, true, false}
use Rattle.std.specs.Prelude.{nat_lt, if◌then◌else◌}
use Rattle.dali_special.specs.Command.{command_of}
use Rattle.dali_gear.specs.declared.row.Reach.TheVariants.{Everyone}
use Rattle.dali_gear.specs.Row.{answers_of, heard_of}
use Rattle.dali_events.specs.declared.event.Event.{Event}
use Rattle.dali_events.specs.declared.event.Event.TheVariants as event
use Rattle.dali_standing.specs.declared.refusal.Refusal.TheVariants.{UnknownGear, DrawsSpent}
use Rattle.dali_grammar.specs.declared.bench_line.BenchLine.{BenchLine}
use Rattle.dali_grammar.specs.declared.bench_line.BenchLine.TheVariants.{Frame, Off, On, Expire}
use Rattle.dali_grammar.specs.declared.bench_line.BenchLine.TheVariants.{Quiet, Show}
use Rattle.dali_replay.specs.Bench.{BenchState, is_enough}
use Rattle.dali_replay.specs.Text.{heard_text, ok_text, gear_texts, refused_text}

abbrev pub known_text : BenchState → ℕ → List ℕ
known_text w g = if nat_lt g (length w.gear) then ok_text else refused_text UnknownGear

-- What is reported of one line in a world.
abbrev pub report : BenchState → BenchLine → List ℕ
report w (Frame frame) =
    if is_enough w (command_of frame)
    then heard_text frame (heard_of (answers_of Everyone (command_of frame) 0 w.gear))
    else refused_text DrawsSpent
report w (Off g) = known_text w g
report w (On g) = known_text w g
report w (Expire g) = known_text w g
report w Quiet = ok_text
report w Show = gear_texts 0 w.gear

-- WHAT COMES OF A LINE OF A BENCH: one event, unless the line is refused or only shows the gear.
-- Controller 0 stands for the sender of a frame.
abbrev pub if_gear : BenchState → ℕ → Event → Option Event
if_gear w g e = if nat_lt g (length w.gear) then Some e else None

abbrev pub bench_event : BenchState → BenchLine → Option Event
bench_event w (Frame f) =
    if is_enough w (command_of f)
    then Some (event.Sent 0 f (heard_of (answers_of Everyone (command_of f) 0 w.gear)))
    else None
bench_event w (Off g) = if_gear w g (event.Power g false)
bench_event w (On g) = if_gear w g (event.Power g true)
bench_event w (Expire g) = if_gear w g (event.Expired g)
bench_event w Quiet = Some event.Quiet
bench_event w Show = None

-- a log, and what came of a line
abbrev pub with_event : List Event → Option Event → List Event
with_event log (Some e) = log ++ e ∷ []
with_event log None = log
