use Rattle.std.specs.Prelude.{◌≡◌, ◌≢◌, ◌⊎◌, ℕ, ◌+◌, ◌<◌, ◌==◌, Bool, true, false}
use Rattle.std.specs.Prelude.{List, [], ◌∷◌, length}
use Rattle.std.specs.List.{list_any}
use Rattle.dali_script.specs.Records.{Kept, Assignment, Has, HasAddress, HasRandom}
use Rattle.dali_replacement.specs.declared.tables.Giver.{Giver}
use Rattle.dali_replacement.specs.declared.tables.Giver.TheVariants.{Nobody, One, Several}

-- WHO GIVES a short address: the one whose records reserve it, by their number
abbrev pub reserves : ℕ → Kept → Bool
reserves a k = list_any (λ p. p.0 == a) k.reserved

abbrev pub joined : Bool → ℕ → Giver → Giver
joined false i others = others
joined true i Nobody = One i
joined true i (One j) = Several
joined true i Several = Several

abbrev pub giver_from : ℕ → ℕ → List Kept → Giver
giver_from i a [] = Nobody
giver_from i a (k ∷ more) = joined (reserves a k) i (giver_from (i + 1) a more)

-- a table has all pairs of a list but those of one address; so has each of several tables, of
-- another table and of several
abbrev pub HasAllBut : ℕ → List Assignment → Kept → Type 0
HasAllBut a xs k = (p : Assignment) → Has xs p → p.0 ≢ a → Has k.enrolled p

unfoldable pub HaveAllBut : ℕ → List Kept → Kept → Type 0
HaveAllBut a ks other = (k : Kept) → Has ks k → HasAllBut a other.enrolled k

abbrev pub HaveAllOf : ℕ → List Kept → List Kept → Type 0
HaveAllOf a ks others = (other : Kept) → Has others other → HaveAllBut a ks other

-- the addresses are short addresses
abbrev pub AreShort : List Assignment → Type 0
AreShort [] = Unit {0}
AreShort (p ∷ more) = (p.0 < 64) × AreShort more

-- a table has all pairs of a list; what another one has; and has reserved what that has
abbrev pub HasAll : List Assignment → Kept → Type 0
HasAll xs k = (p : Assignment) → Has xs p → Has k.enrolled p

abbrev pub Keeps : Kept → Kept → Type 0
Keeps old new = HasAll old.enrolled new

abbrev pub KeepsReserved : Kept → Kept → Type 0
KeepsReserved old new = (p : Assignment) → Has old.reserved p → Has new.reserved p

-- pairs are reserved, as far as a table has them
abbrev pub Reserves : List Assignment → Kept → Kept → Type 0
Reserves xs table k = (p : Assignment) → Has xs p → Has table.enrolled p → Has k.reserved p

-- each pair of a list stands in an earlier one, or in a third; and a pair is of one of several
-- tables; and so each of a table is of an earlier one, or of one of several
abbrev pub IsOf : List Assignment → List Assignment → List Assignment → Type 0
IsOf new old xs = (p : Assignment) → Has new p → Has old p ⊎ Has xs p

abbrev pub IsOfOne : List Kept → Assignment → Type 0
IsOfOne ks p = (k : Kept) × Has ks k × Has k.enrolled p

abbrev pub AreOf : List Assignment → List Assignment → List Kept → Type 0
AreOf new old ks = (p : Assignment) → Has new p → Has old p ⊎ IsOfOne ks p

-- no gear has the address; so it stays for each address but that of a pair
abbrev pub Lacks : ℕ → Kept → Type 0
Lacks a k = HasAddress k.enrolled a → ⊥

abbrev pub Spares : Assignment → Kept → Kept → Type 0
Spares p old new = (a : ℕ) → p.0 ≢ a → Lacks a old → Lacks a new

-- a table has what several have but under one address

abbrev pub IsGathered : ℕ → List Kept → Kept → Type 0
IsGathered a ks all = (k : Kept) → Has ks k → HasAllBut a k.enrolled all

-- each has a gear, or none
abbrev pub AreGiven : ℕ → ℕ → List Kept → Type 0
AreGiven a r ks = (k : Kept) → Has ks k → Has k.enrolled (a, r)

abbrev pub AreNew : ℕ → List Kept → Type 0
AreNew r ks = (k : Kept) → Has ks k → HasRandom k.enrolled r → ⊥

-- THE NEW TABLES ARE COMPLETE: there is one for each of so many files, one at least, as there is an
-- old one; each has the same new gear under the address, and all that an old or another new one
-- has under others; and no old table has the new gear.
pub record IsComplete (n a r : ℕ) (old news : List Kept) : Type 0 where
  pub some : 0 < n
  pub olds : length old ≡ n
  pub count : length news ≡ n
  pub given : AreGiven a r news
  pub all : HaveAllOf a news old
  pub same : HaveAllOf a news news
  pub new : AreNew r old
