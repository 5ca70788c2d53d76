use Rattle.std.specs.Prelude.{◌≡◌, ℕ, ◌+◌, ◌<◌, ◌≤◌, Bool, true, false, ◌&&◌, ◌||◌, not, is_none}
use Rattle.std.specs.Prelude.{List, [], ◌∷◌, Option, Some, None}
use Rattle.dali_frame.specs.Random.{value_of, MASK24}
use Rattle.dali_special.specs.declared.command.Command.{Command}
use Rattle.dali_special.specs.declared.command.Command.TheVariants.{Terminate, Initialise}
use Rattle.dali_special.specs.declared.command.Command.TheVariants.{Compare, QueryShort}
use Rattle.dali_special.specs.Command.{command_of}
use Rattle.dali_gear.specs.declared.row.Reach.TheVariants.{Everyone}
use Rattle.dali_gear.specs.Row.{heard_of, answers_of}
use Rattle.dali_script.specs.declared.stage.Stage.{Stage}
use Rattle.dali_script.specs.declared.stage.Stage.TheVariants.{InitialisedOnce, RandomisedOnce}
use Rattle.dali_script.specs.declared.stage.Stage.TheVariants.{Programmed}
use Rattle.dali_script.specs.declared.trace.Entry.{Entry}
use Rattle.dali_script.specs.Findings.{search_of}
use Rattle.dali_script.specs.Stages.{stage_of}
use Rattle.dali_audit.specs.Bus.{names_unaddressed}
use Rattle.dali_events.specs.declared.event.Event.{Event}
use Rattle.dali_events.specs.declared.event.Event.TheVariants as event
use Rattle.dali_events.specs.Plan.{Plan}
use Rattle.dali_events.specs.World.{World, start}
use Rattle.dali_events.specs.Happens.{happens, trace_running, gives_up}
use Rattle.dali_events.specs.Runs.{IsRun}
use Rattle.dali_audit_laws.specs.Capture.{frames_of, is_randomise, begins_at, ends_at, next_at}

-- WHERE A TRANSACTION IS NOT TO BE LEFT: between the two frames of a pair, and before the query
-- that asks for a short address that was programmed
abbrev pub AwaitsMore : Stage → Type 0
AwaitsMore InitialisedOnce = Unit {0}
AwaitsMore RandomisedOnce = Unit {0}
AwaitsMore (Programmed r a) = Unit {0}
AwaitsMore _ = ⊥

-- WHAT DISTURBS NOTHING. A controller acts, and leaves no transaction where it is not to be left;
-- or it asks to send direct arc power; or a frame is sent, and what is heard is what gear answer:
-- several together as damaged. QUERY SHORT ADDRESS is sent under a search address that gear draw:
-- at FFFFFF all that have not drawn answer together. No frame is destroyed, none collide, none come
-- of other devices; no owner loses the bus; it is never quiet for long; no power comes or goes; no
-- initialisation expires; no controller restarts.
abbrev pub DisturbsNothing : World → Event → Type 0
DisturbsNothing w (event.Acted c i o) =
    gives_up w.bus c o ≡ true → AwaitsMore (stage_of w.trace) → ⊥
DisturbsNothing w (event.Offered c f) = Unit {0}
DisturbsNothing w (event.Sent c f h) =
    (h ≡ heard_of (answers_of Everyone (command_of f) 0 w.gear))
    × (command_of f ≡ QueryShort → value_of (search_of (trace_running w c)) < MASK24)
DisturbsNothing w _ = ⊥

abbrev pub DisturbNothing : World → List Event → Type 0
DisturbNothing w [] = Unit {0}
DisturbNothing w (e ∷ es) = DisturbsNothing w e × DisturbNothing (happens w e) es

-- INITIALISATIONS: since when one is open, by the end of the last INITIALISE; none after TERMINATE
pub record Since : Type 0 where
  pub at : Option ℕ
  -- and whether COMPARE came when none was, and no INITIALISE since that names gear without a short
  -- address: so the TERMINATE of one controller may have cut the search of another one off
  pub is_cut : Bool

abbrev pub open_since : Command → ℕ → Since → Since
open_since Terminate end since = record since { at = None }
open_since (Initialise target) end since = record {
  at = Some end;
  is_cut = since.is_cut && not (names_unaddressed target);
}
open_since Compare end since = record since { is_cut = since.is_cut || is_none since.at }
open_since _ end since = since

-- an initialisation is over after 15 minutes (IEC 62386-102:2014, INITIALISE)
abbrev pub Within : Option ℕ → ℕ → Type 0
Within None at = Unit {0}
Within (Some since) at = at ≤ since + 900000000

-- each frame begins within that time; at the end none is open, and no search is cut off
abbrev pub AreInTime : Since → ℕ → Bool → List Entry → Type 0
AreInTime since now drew [] = (since.at ≡ None) × (since.is_cut ≡ false)
AreInTime since now drew (x ∷ xs) =
    Within since.at (begins_at now drew x)
    × AreInTime (open_since (command_of x.frame) (ends_at now drew x) since) (next_at now drew x)
    (is_randomise (command_of x.frame)) xs

abbrev pub at_first : Since
at_first = record { at = None; is_cut = false }

-- AN UNDISTURBED RUN of gear from the factory, whose initialisations are ended in time
pub record IsUndisturbed (p : Plan) (capacity : ℕ) (log : List Event) : Type 0 where
  pub run : IsRun p capacity log
  pub factory : p.used ≡ []
  pub calm : DisturbNothing (start p capacity) log
  pub in_time : AreInTime at_first 0 false (frames_of log)
