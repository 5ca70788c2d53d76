use Rattle.std.specs.Prelude.{◌≡◌, ◌↔◌, ℕ, ◌<◌, List, ◌++◌, length, map, Some}
use Rattle.dali_script.specs.Records.{Assignment, Has, IsOnce}
use Rattle.dali_events.specs.declared.event.Event.{Event}
use Rattle.dali_events.specs.Plan.{Plan}
use Rattle.dali_events.specs.World.{World, gear_at, controller_at, start}
use Rattle.dali_events.specs.Runs.{after_all, IsDrawer}

-- THE PROMISE, by gear and tables alone. Below it stands what else is true of the histories of
-- gifts and of draws, from which it follows.

-- gear g is there, and its short address is a
abbrev pub HoldsShort : World → ℕ → ℕ → Type 0
HoldsShort w g a = (g < length w.gear) × ((gear_at w g).short ≡ Some a)

-- controller c is there, and keeps the enrolment
abbrev pub IsEnrolled : World → ℕ → Assignment → Type 0
IsEnrolled w c entry = (c < length w.controllers) × Has (controller_at w c).records.enrolled entry

-- AT ONE MOMENT: two gear that hold one short address are the same gear. For each kept
-- enrolment (a, r), of whichever controller, there is the gear that holds a, and its random address
-- is r.
pub record KeepsPromiseNow (w : World) : Type 0 where
  pub one_gear : (g h a : ℕ) → HoldsShort w g a → HoldsShort w h a → g ≡ h
  pub tables : (c : ℕ) (entry : Assignment) → IsEnrolled w c entry
      → (g : ℕ) × HoldsShort w g entry.0 × ((gear_at w g).random ≡ entry.1)

-- FROM A MOMENT ON: a gear that holds a short address holds it later, with its random address
abbrev pub KeepsAddresses : World → World → Type 0
KeepsAddresses earlier now =
    (g a : ℕ) → HoldsShort earlier g a
    → HoldsShort now g a × ((gear_at now g).random ≡ (gear_at earlier g).random)

-- AT EVERY MOMENT of what happens in a world, and from each one on.
pub record KeepsPromiseFrom (w : World) (log : List Event) : Type 0 where
  pub always : (earlier more : List Event) → earlier ++ more ≡ log
      → KeepsPromiseNow (after_all w earlier)
  pub ever_after : (earlier later rest : List Event) → earlier ++ (later ++ rest) ≡ log
      → KeepsAddresses (after_all w earlier) (after_all w (earlier ++ later))

-- AT EVERY MOMENT OF A LOG, and from each one on.
abbrev pub KeepsPromise : Plan → ℕ → List Event → Type 0
KeepsPromise p capacity log = KeepsPromiseFrom (start p capacity) log

-- ---------------------------------------------------------------- with gifts and draws

-- Gear g was given the short address a if (g, a) stands in the history of gifts.

-- the entry (a, r) names gear g: g drew r, was given a, and its random address is r
pub record NamesGear (w : World) (entry : Assignment) (g : ℕ) : Type 0 where
  pub drawer : IsDrawer w g entry.1
  pub given : Has w.gifts (g, entry.0)
  pub random : (gear_at w g).random ≡ entry.1

-- and it names a gear that is there
abbrev pub Names : World → Assignment → Type 0
Names w entry = (g : ℕ) × (g < length w.gear) × NamesGear w entry g

-- A SAFE WORLD.
pub record IsSafe (w : World) : Type 0 where
  -- each gear stands at most once among the gifts, and each address
  pub gear_once : IsOnce (map (λ gift. gift.0) w.gifts)
  pub address_once : IsOnce (map (λ gift. gift.1) w.gifts)
  -- a gear holds an address exactly if it was given it
  pub holds : (g a : ℕ) → g < length w.gear → ((gear_at w g).short ≡ Some a) ↔ Has w.gifts (g, a)
  -- every entry of every controller's kept enrolments is true
  pub tables : (c : ℕ) (entry : Assignment) → IsEnrolled w c entry → Names w entry

-- from a gift on, it stands among the gifts, and the random address of its gear is one number
abbrev pub KeepsGifts : World → World → Type 0
KeepsGifts earlier now =
    (g a : ℕ) → Has earlier.gifts (g, a)
    → Has now.gifts (g, a) × ((gear_at now g).random ≡ (gear_at earlier g).random)

-- A SAFE HISTORY of what happens in a world: every world of it is safe, and what a gear was given
-- stays so in every later world.
pub record IsSafeFrom (w : World) (log : List Event) : Type 0 where
  pub always : (earlier more : List Event) → earlier ++ more ≡ log → IsSafe (after_all w earlier)
  pub ever_after : (earlier later rest : List Event) → earlier ++ (later ++ rest) ≡ log
      → KeepsGifts (after_all w earlier) (after_all w (earlier ++ later))

-- A SAFE HISTORY of a log.
abbrev pub IsSafeHistory : Plan → ℕ → List Event → Type 0
IsSafeHistory p capacity log = IsSafeFrom (start p capacity) log
