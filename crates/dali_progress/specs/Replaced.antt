use Rattle.std.specs.Prelude.{◌≡◌, ℕ, ◌<◌, ◌≤◌, true, List, length}
use Rattle.dali_script.specs.declared.block.Block.{Block}
use Rattle.dali_script.specs.Records.{Has, InBlock, IsOnce}
use Rattle.dali_script.specs.declared.orders.End.{End}
use Rattle.dali_script.specs.declared.orders.End.TheVariants.{AllFound}
use Rattle.dali_events.specs.Plan.{Plan, block_at}
use Rattle.dali_events.specs.Used.{used_gear, used_shorts}
use Rattle.dali_events.specs.Promise.{HoldsShort}
use Rattle.dali_events.specs.Wanted.{is_bare}
use Rattle.dali_events.specs.World.{gear_at}
use Rattle.dali_world.specs.Site.{SiteState, world}
use Rattle.dali_progress.specs.Rounds.{bare, IsSettledOn}
use Rattle.dali_progress.specs.Ends.{table_at, IsUnseen}

-- VACANT ADDRESSES, and one gear that is new on a site, say in the place of one that is gone.

-- an address that no gear has, with power or without
abbrev pub IsVacant : SiteState → ℕ → Type 0
IsVacant s a = (k : ℕ) → HoldsShort (world s) k a → ⊥

-- ADDRESSES ENOUGH: so many of the controller's block are vacant, and not reserved for a gear
-- that is gone, as gear have power and no short address.
pub record HasVacant (s : SiteState) (c : ℕ) : Type 0 where
  pub addresses : List ℕ
  pub once : IsOnce addresses
  pub within : (a : ℕ) → Has addresses a → InBlock (block_at s.plan c) a
  pub vacant : (a : ℕ) → Has addresses a → IsVacant s a
  pub settled : (a : ℕ) → Has addresses a → IsSettledOn s c a
  pub enough : bare s ≤ length addresses

-- ONE IS NEW. Of the gear that have power, g alone has no short address; and an address of the
-- controller's block is vacant. The others may have short addresses of that block or not, by any
-- controller.
pub record HasNew (s : SiteState) (c g a : ℕ) : Type 0 where
  pub there : g < length (world s).gear
  pub bare : is_bare (gear_at (world s) g) ≡ true
  pub alone : (k : ℕ) → k < length (world s).gear → is_bare (gear_at (world s) k) ≡ true → k ≡ g
  pub within : InBlock (block_at s.plan c) a
  pub vacant : IsVacant s a

-- A PLAN IN WHICH ONE IS NEW: all gear but g are used, and none of them has the short address a.
pub record IsReplacing (p : Plan) (g a : ℕ) : Type 0 where
  pub there : g < p.gear
  pub new : Has (used_gear p.used) g → ⊥
  pub others : (k : ℕ) → k < p.gear → (k ≡ g → ⊥) → Has (used_gear p.used) k
  pub vacant : Has (used_shorts p.used) a → ⊥

-- a block of one address
abbrev pub only : ℕ → Block
only a = record { first = a; last = a }

-- IT IS SERVED: the controller ends with all-found, the new gear has an address of the block that
-- was vacant, and the table names it so; if the site was once as `before`
pub record IsServed (before s : SiteState) (c g : ℕ) (e : End) : Type 0 where
  pub found : e ≡ AllFound
  pub address : ℕ
  pub within : InBlock (block_at before.plan c) address
  pub vacant : IsVacant before address
  pub holds : HoldsShort (world s) g address
  pub named : Has (table_at s c) (address, (gear_at (world s) g).random)

-- and the table names each gear that had a short address, but one that was not to be seen
abbrev pub AreNamed : SiteState → SiteState → ℕ → Type 0
AreNamed before s c =
    (k b : ℕ) → HoldsShort (world before) k b → (IsUnseen (gear_at (world before) k) → ⊥)
    → Has (table_at s c) (b, (gear_at (world before) k).random)
