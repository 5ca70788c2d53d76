use Rattle.std.specs.Prelude.{◌≡◌, ℕ, ◌<◌, true, List, [], ◌∷◌, ◌++◌, length, Option, Some, None}
use Rattle.dali_frame.specs.declared.frames.Forward.{Forward}
use Rattle.dali_frame.specs.declared.numbers.SearchAddress.{SearchAddress}
use Rattle.dali_frame.specs.Random.{value_of}
use Rattle.dali_special.specs.declared.command.Command.TheVariants.{Terminate, Compare, Withdraw}
use Rattle.dali_special.specs.Command.{command_of}
use Rattle.dali_gear.specs.declared.row.Reach.TheVariants.{Everyone}
use Rattle.dali_gear.specs.Gear.{Gear, is_active}
use Rattle.dali_gear.specs.Row.{answers_of}
use Rattle.dali_script.specs.declared.trace.Entry.{Entry}
use Rattle.dali_script.specs.declared.stage.Stage.{Stage}
use Rattle.dali_script.specs.declared.stage.Stage.TheVariants.{NumberSent, Hunted, Found, Unnamed}
use Rattle.dali_script.specs.declared.stage.Stage.TheVariants.{Programmed, Confirmed}
use Rattle.dali_script.specs.declared.stage.Stage.TheVariants.{InitialisedOnce, RandomisedOnce}
use Rattle.dali_script.specs.Scripts.{Open, steps, IsFront}
use Rattle.dali_script.specs.Findings.{search_of}
use Rattle.dali_script.specs.Stages.{stage_of}
use Rattle.dali_events.specs.declared.event.Event.{Event}
use Rattle.dali_events.specs.declared.event.Event.TheVariants as event
use Rattle.dali_events.specs.Plan.{Plan}
use Rattle.dali_events.specs.World.{World, gear_at}
use Rattle.dali_events.specs.Happens.{trace_running, happens}
use Rattle.dali_events.specs.Runs.{after, IsRun}

-- WHAT THE LAWS SAY OF GEAR AND FRAMES.

-- each gear that has power
abbrev pub EachPowered : World → (Gear → Type 0) → Type 0
EachPowered w P = (g : ℕ) → g < length w.gear → (gear_at w g).powered ≡ true → P (gear_at w g)

-- each gear that has power and is not DISABLED
abbrev pub EachActive : World → (Gear → Type 0) → Type 0
EachActive w P = EachPowered w (λ g. is_active g.state ≡ true → P g)

-- the search address of a transaction: from the third of its search bytes on, until the COMPARE of
-- a probe or a WITHDRAW; in a hunt and in a roll call always
abbrev pub number_at : Stage → Option SearchAddress
number_at (NumberSent r) = Some r
number_at (Hunted r last left) = Some r
number_at (Found r b) = Some r
number_at (Unnamed r) = Some r
number_at (Programmed r a) = Some r
number_at (Confirmed r a) = Some r
number_at _ = None

-- ---------------------------------------------------------------- a search that finds no gear

-- Since an opening nothing befell the gear that makes them forget it: no power came or went, no
-- initialisation expired, the bus was not quiet for long, and no TERMINATE was sent or destroyed.
-- Frames of other devices make them forget nothing but half a pair.
abbrev pub IsCalm : Event → Type 0
IsCalm event.Quiet = ⊥
IsCalm (event.Power g on) = ⊥
IsCalm (event.Expired g) = ⊥
IsCalm (event.Sent c f h) = command_of f ≡ Terminate → ⊥
IsCalm (event.Destroyed c f set) = command_of f ≡ Terminate → ⊥
IsCalm _ = Unit {0}

abbrev pub AreCalm : List Event → Type 0
AreCalm [] = Unit {0}
AreCalm (e ∷ es) = IsCalm e × AreCalm es

-- and none comes between the two INITIALISE or the two RANDOMISE
abbrev pub IsHalfway : Stage → Type 0
IsHalfway InitialisedOnce = Unit {0}
IsHalfway RandomisedOnce = Unit {0}
IsHalfway _ = ⊥

abbrev pub BreaksNoPair : World → Event → Type 0
BreaksNoPair w (event.Foreign f) = IsHalfway (stage_of w.trace) → ⊥
BreaksNoPair w _ = Unit {0}

abbrev pub BreakNoPair : World → List Event → Type 0
BreakNoPair w [] = Unit {0}
BreakNoPair w (e ∷ es) = BreaksNoPair w e × BreakNoPair (happens w e) es

-- and no gear was passed over: WITHDRAW was not sent to gear that were not asked for their short
-- address
abbrev pub PassesOver : World → ℕ → Forward → Type 0
PassesOver w c f =
    (command_of f ≡ Withdraw)
    × ((r : SearchAddress) × (stage_of (trace_running w c) ≡ NumberSent r))

abbrev pub PassesNobody : World → Event → Type 0
PassesNobody w (event.Sent c f h) = PassesOver w c f → ⊥
PassesNobody w (event.Destroyed c f set) = PassesOver w c f → ⊥
PassesNobody w _ = Unit {0}

abbrev pub PassNobody : World → List Event → Type 0
PassNobody w [] = Unit {0}
PassNobody w (e ∷ es) = PassesNobody w e × PassNobody (happens w e) es

-- controller c owns the bus, and this frame is the last of its opening
pub record CompletesOpening (w : World) (c : ℕ) (f : Forward) : Type 0 where
  pub owner : w.bus.owner ≡ Some c
  pub opening : IsFront w.trace f (steps Open)
  pub last : length w.trace ≡ 4

-- the search address below which all random addresses lie that gear draw
abbrev pub HIGHEST : ℕ
HIGHEST = 0xFFFFFE

abbrev pub sent_event : ℕ → Entry → Event
sent_event c x = event.Sent c x.frame x.heard

-- the events up to the last frame of an opening, and up to a COMPARE after it; the frames are with
-- what was heard after them
abbrev pub up_to_opening : List Event → ℕ → Entry → List Event → List Event
up_to_opening front c first opening = front ++ sent_event c first ∷ opening

abbrev pub up_to_compare : List Event → ℕ → Entry → List Event → Entry → List Event → List Event
up_to_compare front c first opening last middle =
    front ++ sent_event c first ∷ (opening ++ sent_event c last ∷ middle)

-- A SEARCH FOR ALL GEAR: controller c sends a whole opening, from `first` to `last`, and later a
-- COMPARE under FFFFFE.
pub record SearchesAll (p : Plan) (capacity : ℕ) (front : List Event) (c : ℕ) (first : Entry)
    (opening : List Event) (last : Entry) (middle : List Event) (compare : Entry) : Type 0 where
  pub run : IsRun p capacity (up_to_compare front c first opening last (middle
      ++ sent_event c compare ∷ []))
  -- the opening
  pub terminate : command_of first.frame ≡ Terminate
  pub calm_opening : AreCalm opening
  pub unbroken : BreakNoPair (after p capacity (front ++ sent_event c first ∷ [])) opening
  pub complete : CompletesOpening (after p capacity (up_to_opening front c first opening))
      c last.frame
  -- and from then on
  pub calm_since : AreCalm middle
  pub nobody_passed : PassNobody (after p capacity (up_to_compare front c first opening last []))
      middle
  pub compare_sent : command_of compare.frame ≡ Compare
  pub searched : (r : SearchAddress)
      × (number_at (stage_of
      (trace_running (after p capacity (up_to_compare front c first opening last middle)) c))
      ≡ Some r)
  pub highest : value_of
      (search_of (trace_running (after p capacity (up_to_compare front c first opening last middle))
      c)) ≡ HIGHEST

-- no gear answers a COMPARE now
abbrev pub NobodyAnswers : World → Type 0
NobodyAnswers w = answers_of Everyone Compare 0 w.gear ≡ []

abbrev pub HasShort : Gear → Type 0
HasShort g = (a : ℕ) × (g.short ≡ Some a)
