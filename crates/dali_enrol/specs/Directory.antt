use Rattle.std.specs.Prelude.{◌≡◌, ℕ, List, Option, Some, None, IfSome, slice_index_or}
use Rattle.dali_script.specs.Table.{Enrolled}

-- A pass: the names of the places of the directory that it is of, for each short address, from 0
-- on, the entry that it knows to stand there for good, and for each place the entry that stood
-- there after a post, be it of another address.
pub record Pass : Type 0 where
  pub places : List ℕ
  pub known : List (Option Enrolled)
  pub standing : List (Option Enrolled)

-- the entry that a pass knows at a short address
abbrev pub known_at : Pass → ℕ → Option Enrolled
known_at p a = slice_index_or p.known a None

-- the entry that a pass knows to stand in the place of a short address, since it posted there
abbrev pub stands_at : Pass → ℕ → Option Enrolled
stands_at p a = slice_index_or p.standing a None

abbrev pub IsNothing : Pass → Type 0
IsNothing p = (a : ℕ) → (known_at p a ≡ None) × (stands_at p a ≡ None)

-- the entry, if there is one, is of this short address
abbrev pub IsOfAddress : Option Enrolled → ℕ → Type 0
IsOfAddress o a = IfSome o (λ e. e.short ≡ a)

-- each entry that is known is of the address at which it is known
abbrev pub AtItsAddress : List (Option Enrolled) → Type 0
AtItsAddress known = (a : ℕ) → IsOfAddress (slice_index_or known a None) a

-- what was known is known still
abbrev pub Keeps : Pass → Pass → Type 0
Keeps old new = (a : ℕ) → IfSome (known_at old a) (λ e. known_at new a ≡ Some e)
