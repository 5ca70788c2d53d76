use Rattle.std.specs.Prelude.{◌≡◌, ◌≢◌, ℕ, ◌<◌, List, length, Some}
use Rattle.dali_gear.specs.Gear.{Gear}
use Rattle.dali_audit.specs.declared.holders.Holder.{Holder}
use Rattle.dali_audit.specs.declared.holders.Holder.TheVariants as holder
use Rattle.dali_audit.specs.Holders.{random_of, holder_at}
use Rattle.dali_events.specs.Wanted.{gear_of}

-- gear g is there, and has the short address
abbrev pub Holds : List Gear → ℕ → ℕ → Type 0
Holds gs g a = (g < length gs) × ((gear_of gs g).short ≡ Some a)

-- A TABLE IS THAT OF THE GEAR: who stands at a short address is a gear that has it, with its random
-- address; and each gear that has one stands at it.
pub record IsTableOf (gs : List Gear) (hs : List Holder) : Type 0 where
  pub true_of : (a : ℕ) → holder_at hs a ≢ holder.Nobody
      → (g : ℕ) × Holds gs g a × (random_of (holder_at hs a) ≡ Some (gear_of gs g).random)
  pub has : (g a : ℕ) → Holds gs g a → holder_at hs a ≢ holder.Nobody
