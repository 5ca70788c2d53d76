use Rattle.std.specs.Prelude.{◌≡◌, ℕ, ◌+◌, ◌≤◌, Bool, true, false, ◌&&◌, not, nat_le, is_some}
use Rattle.std.specs.Prelude.{List, [], ◌∷◌, ◌++◌, length, replicate, slice_set}
use Rattle.std.specs.Prelude.{Option, Some, None, if◌then◌else◌}
use Rattle.std.specs.List.{list_any}
use Rattle.dali_special.specs.declared.command.Target.TheVariants.{Unaddressed}
use Rattle.dali_special.specs.declared.command.Command.{Command}
use Rattle.dali_special.specs.declared.command.Command.TheVariants.{Terminate, Initialise}
use Rattle.dali_special.specs.declared.command.Command.TheVariants.{Randomise}
use Rattle.dali_special.specs.Command.{frame_of}
use Rattle.dali_gear.specs.Gear.{Gear, fresh, addressed}
use Rattle.dali_capture.specs.declared.item.Item.{Item}
use Rattle.dali_audit.specs.declared.places.Place.{Place}
use Rattle.dali_audit.specs.declared.comparing.Move.TheVariants.{On, Off, Frame}
use Rattle.dali_audit.specs.declared.comparing.Step.{Step}
use Rattle.dali_audit.specs.declared.bench.Bench.{Bench}
use Rattle.dali_audit.specs.Frames.{frames_of, frames_in}
use Rattle.dali_audit.specs.Places.{places_in}

-- THE GEAR WHEN A CAPTURE BEGINS are from the factory, but those from number k on that had a short
-- address come with their addresses
abbrev pub placed_one : ℕ → ℕ → Option ℕ → List Gear → List Gear
placed_one k r None gs = gs
placed_one k r (Some a) gs = slice_set gs k (addressed r a)

abbrev pub placed : ℕ → List Place → List Gear → List Gear
placed k [] gs = gs
placed k (p ∷ ps) gs = placed (k + 1) ps (placed_one k p.random p.short gs)

abbrev pub gear_at_first : List Place → List Gear
gear_at_first ps = placed 0 ps (replicate (length ps) fresh)

-- WHAT COMES BEFORE THE CAPTURE, if gear without a short address had drawn their number before
-- it: they draw it
abbrev pub is_early : Place → Bool
is_early p = not (is_some p.draw) && not (is_some p.short)

abbrev pub early : Command → Step
early c = record { at = 0; what = Frame (frame_of c) None }

abbrev pub early_frames : Bool → List Step
early_frames false = []
early_frames true =
    early (Initialise Unaddressed) ∷ early (Initialise Unaddressed)
    ∷ early Randomise ∷ early Randomise ∷ early Terminate ∷ []

-- A BENCH OF A CAPTURE has the gear that the capture reveals, and takes its frames after what came
-- before, each once and in order, with its time and with what was heard
pub record IsBenchOf (b : Bench) (items : List Item) : Type 0 where
  pub gear : b.places.items ≡ places_in items
  pub few : length b.places.items ≤ 128
  pub frames :
      frames_of b.steps.items
      ≡ early_frames (list_any is_early b.places.items) ++ frames_in None items

-- POWER: after TERMINATE the state of each gear is known that draws its number no later, but of
-- those that are lost; each of them gets power
abbrev pub is_due : ℕ → Option Place → Bool → Bool
is_due n None lost = false
is_due n (Some p) lost = nat_le p.from n && not lost

abbrev pub woken : Bool → ℕ → List Bool → List Bool
woken due k on = if due then slice_set on k true else on

-- a gear gets power, or loses it, by a step, if it has it not already
abbrev pub power_steps : ℕ → ℕ → Bool → Bool → List Step
power_steps at k true true = []
power_steps at k false false = []
power_steps at k false true = record { at = at; what = On k } ∷ []
power_steps at k true false = record { at = at; what = Off k } ∷ []
