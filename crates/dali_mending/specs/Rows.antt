use Rattle.std.specs.Prelude.{◌≡◌, ◌⊎◌, ◌&&◌, ℕ, Bool, true, false, List, [], ◌∷◌, map}
use Rattle.std.specs.Prelude.{if◌then◌else◌}
use Rattle.std.specs.Prelude.{Option, Some, None, slice_set, slice_index_or}
use Rattle.dali_special.specs.declared.command.Command.{Command}
use Rattle.dali_gear.specs.declared.row.Reach.{Reach}
use Rattle.dali_gear.specs.declared.row.Reach.TheVariants.{Everyone, Only}
use Rattle.dali_gear.specs.Gear.{Gear, fresh, is_active, with_power, without_power, gear_expired}
use Rattle.dali_gear.specs.Gear.{gear_quieted}
use Rattle.dali_gear.specs.Row.{row_after, row_left}
use Rattle.dali_mending.specs.declared.stage.Stage.{Stage}
use Rattle.dali_mending.specs.Transactions.{commands_of}
use Rattle.dali_mending.specs.Course.{Spares}

-- ---------------------------------------------------------------- a row of gear on a bus

-- the gear, and the numbers that are left to be drawn
pub record Site : Type 0 where
  pub gear : List Gear
  pub left : List ℕ

-- WHAT BEFALLS GEAR BETWEEN TWO FRAMES: the power of one goes or comes, its initialisation is over
-- after 15 minutes; the bus is quiet for so long that no pair is left half; or a frame of another
-- device comes, which is no addressing command.
pub data Befall : Type 0 where
  Power : ℕ → Bool → Befall
  Expired : ℕ → Befall
  Quiet : Befall
  Foreign : Befall

abbrev pub changed : List Gear → ℕ → (Gear → Gear) → List Gear
changed gs k change = slice_set gs k (change (slice_index_or gs k fresh))

abbrev pub powered : Bool → Gear → Gear
powered true g = with_power g
powered false g = without_power g

abbrev pub interrupted : Gear → Gear
interrupted g = if g.powered then gear_quieted g else g

abbrev pub befallen : Befall → List Gear → List Gear
befallen (Power k on) gs = changed gs k (powered on)
befallen (Expired k) gs = changed gs k gear_expired
befallen Quiet gs = map gear_quieted gs
befallen Foreign gs = map interrupted gs

abbrev pub all_befallen : List Befall → List Gear → List Gear
all_befallen [] gs = gs
all_befallen (b ∷ bs) gs = all_befallen bs (befallen b gs)

-- ---------------------------------------------------------------- a transaction

-- A FRAME OF A TRANSACTION: what befalls the gear before it, and which gear it reaches: all of
-- them, or, if it is destroyed, some.
pub record Moment : Type 0 where
  pub before : List Befall
  pub reach : Reach

-- all gear that it reaches take it
abbrev pub taken : Reach → Command → Site → Site
taken reach c s = record {
  gear = row_after reach c 0 s.gear s.left;
  left = row_left reach c 0 s.gear s.left;
}

abbrev pub put_at : Moment → Command → Site → Site
put_at m c s = taken m.reach c (record s { gear = all_befallen m.before s.gear })

abbrev pub is_whole : Reach → Bool
is_whole Everyone = true
is_whole (Only set) = false

-- A TRANSACTION IS SENT, frame by frame, as far as there are moments; its sender learns of each
-- frame that is destroyed, and sends no more.
abbrev pub sent : List Command → List Moment → Site → Site
sent [] ms s = s
sent (c ∷ cs) [] s = s
sent (c ∷ cs) (m ∷ ms) s =
    if is_whole m.reach then sent cs ms (put_at m c s) else put_at m c s

-- one after the other, for a short address
pub record Sending : Type 0 where
  pub stage : Stage
  pub moments : List Moment

abbrev pub all_sent : ℕ → List Sending → Site → Site
all_sent a [] s = s
all_sent a (x ∷ xs) s = all_sent a xs (sent (commands_of a x.stage) x.moments s)

-- ---------------------------------------------------------------- what is true of each gear

-- this holds of each gear before and after
abbrev pub Each : (Gear → Gear → Type 0) → List Gear → List Gear → Type 0
Each P [] [] = Unit {0}
Each P [] (h ∷ hs) = ⊥
Each P (g ∷ gs) [] = ⊥
Each P (g ∷ gs) (h ∷ hs) = P g h × Each P gs hs

-- it has kept its short and its random address
pub record Keeps (g h : Gear) : Type 0 where
  pub short : h.short ≡ g.short
  pub random : h.random ≡ g.random

-- it takes part in an initialisation
abbrev pub takes_part : Gear → Bool
takes_part g = g.powered && is_active g.state

-- it was given no short address
abbrev pub IsGivenNone : Gear → Gear → Type 0
IsGivenNone g h = (h.short ≡ g.short) ⊎ (h.short ≡ None)

-- each of some transactions spares the gear with a random address
abbrev pub AllSpare : ℕ → List Sending → Type 0
AllSpare r [] = Unit {0}
AllSpare r (x ∷ xs) = Spares r x.stage × AllSpare r xs
