use Rattle.std.specs.Prelude.{◌≡◌, ◌≢◌, ◌≤◌, ◌⊎◌, ℕ, ◌+◌, Bool, true, false, List, [], ◌∷◌, ◌++◌}
use Rattle.std.specs.Prelude.{length, map, take, drop, Option, Some, None, option_map, slice_get}
use Rattle.std.specs.Prelude.{string_bytes}
use Rattle.std.specs.declared.alloc.Global.{Global}
use Rattle.std.specs.declared.string.String.{String}
use Rattle.dali_script.specs.Records.{Kept, HasAddress}
use Rattle.dali_replacement.specs.declared.come.Come.{Come}
use Rattle.dali_replacement.specs.declared.come.Come.TheVariants.{Nowhere}
use Rattle.dali_replacement.specs.declared.refusal.ReplaceRefusal.TheVariants as refusal
use Rattle.dali_replacement.specs.declared.tables.Giver.TheVariants.{One}
use Rattle.dali_replacement.specs.Tables.{giver_from, IsComplete}
use Rattle.dali_replacement.specs.Permit.{confirmed_at, confirmed_random}
use Rattle.dali_replacement.specs.Swapping.{address_of, number_of, texts_of}
use Rattle.dali_commission_said.specs.declared.failure.Failure.{Failure}
use Rattle.dali_commission_said.specs.declared.failure.Failure.TheVariants.{NotReplaced}
use Rattle.dali_commission_said.specs.declared.said.Said.{Said}
use Rattle.dali_commission_stores.specs.Calls.{Call, Look}
use Rattle.dali_commission_stores.specs.Calls as look
use Rattle.dali_commission_stores.specs.Keeping.{IsAside, AreFree}
use Rattle.dali_commission_stores.specs.Seen.{ComeSo, IsFound, LiesOnLine}
use Rattle.dali_commission_stores.specs.Settling.{new_at}
use Rattle.dali_commission_replaced.specs.declared.replacing.DueSwap.{DueSwap}
use Rattle.dali_commission_tasks.specs.declared.tasks.Replacement.{Replacement}

-- WHO GIVES a short address of the block: the only file, or the one of several that alone has
-- reserved it
abbrev pub IsGiver : Replacement → List Kept → ℕ → Type 0
IsGiver wanted all number =
    (wanted.block.first ≤ wanted.short)
    × (wanted.short ≤ wanted.block.last)
    × (length all ≡ 1 → number ≡ 0)
    × (length all ≢ 1 → giver_from 0 wanted.short all ≡ One number)

-- A SWAP IS DUE only of these files, with new tables that are complete, and with the new gear that
-- was heard; the old files are to be kept where nothing lies
abbrev pub IsDue : {F : Type 0} → (F → Look → Type 0) → F → ℕ → List (String Global) → List Kept
    → DueSwap → Type 0
IsDue saw x a names all due =
    (address_of due.swap ≡ a)
    × (confirmed_at due.confirmed ≡ a)
    × (texts_of due.swap ≡ map string_bytes names)
    × ((n : ℕ) × IsComplete n a (confirmed_random due.confirmed) all due.news.items)
    × AreFree saw x [] (number_of due.swap) names

-- NEW FILES ARE PUT ASIDE, that of each name; in a replacement if it is to begin again
abbrev pub AreAside : {F : Type 0} → (F → F → Call → Type 0) → (F → Look → Type 0)
    → (Said → Type 0) → List (String Global) → F → F → Type 0
AreAside made saw told [] x y = x ≡ y
AreAside made saw told (name ∷ more) x y =
    (z : _) × IsAside made saw told (string_bytes name) x z × AreAside made saw told more z y

abbrev pub AreAsideIf : {F : Type 0} → Bool → (F → F → Call → Type 0) → (F → Look → Type 0)
    → (Said → Type 0) → List (String Global) → F → F → Type 0
AreAsideIf true made saw told names x y = AreAside made saw told names x y
AreAsideIf false made saw told names x y = x ≡ y

-- WHERE FILES LIE, that of each name, behind others
abbrev pub AreAtPlaces : {F : Type 0} → (F → Look → Type 0) → F → List (String Global)
    → List (String Global) → List (String Global) → Type 0
AreAtPlaces saw x [] before after = after ≡ before
AreAtPlaces saw x (name ∷ more) before after =
    (place : String Global)
    × LiesOnLine saw x (string_bytes name) (string_bytes place)
    × AreAtPlaces saw x more (before ++ place ∷ []) after

-- FILES ARE APART: none is another one, and none lies where another one's new file is to lie
abbrev pub IsApart : List ℕ → List ℕ → Type 0
IsApart a b = (a ≢ b) × (a ≢ new_at b) × (b ≢ new_at a)

abbrev pub IsApartFrom : List ℕ → List (String Global) → Type 0
IsApartFrom a [] = Unit {0}
IsApartFrom a (other ∷ more) = IsApart a (string_bytes other) × IsApartFrom a more

abbrev pub AreApart : List (String Global) → Type 0
AreApart [] = Unit {0}
AreApart (name ∷ more) = IsApartFrom (string_bytes name) more × AreApart more

-- NO JOURNAL lies beside any of some files
abbrev pub AreUnannounced : {F : Type 0} → (F → Look → Type 0) → F → List (String Global) → Type 0
AreUnannounced saw x [] = Unit {0}
AreUnannounced saw x (name ∷ more) =
    IsFound saw x (string_bytes name) None × AreUnannounced saw x more

-- NO OTHER NEW FILE has come further, each beside its old one: it is not there, or has the same
-- gear
abbrev pub AreBehind : {F : Type 0} → (F → Look → Type 0) → F → ℕ → Come → List (String Global)
    → List Kept → Type 0
AreBehind saw x a come [] olds = Unit {0}
AreBehind saw x a come (name ∷ more) [] = Unit {0}
AreBehind saw x a come (name ∷ more) (old ∷ olds) =
    ((other : Come)
    × ComeSo saw x (string_bytes name) old false a other
    × ((other ≡ Nowhere) ⊎ (other ≡ come)))
    × AreBehind saw x a come more olds

-- HOW FAR AN EARLIER CALL HAS COME, by the new file of the one who gives, and its old one
abbrev pub HasCome : {F : Type 0} → (F → Look → Type 0) → F → List (String Global) → List Kept → ℕ
    → ℕ → Come → Type 0
HasCome saw x names all giver short come =
    (name : List ℕ)
    × (old : Kept)
    × (option_map (λ it. string_bytes it) (slice_get names giver) ≡ Some name)
    × (slice_get all giver ≡ Some old)
    × ComeSo saw x name old true short come
    × AreBehind saw x short come (take giver names) (take giver all)
    × AreBehind saw x short come (drop (giver + 1) names) (drop (giver + 1) all)

-- a table has a gear at a short address
abbrev pub IsAnywhere : ℕ → List Kept → Type 0
IsAnywhere a [] = ⊥
IsAnywhere a (k ∷ more) = HasAddress k.enrolled a ⊎ IsAnywhere a more

-- THE FIRST of some short addresses that are said to be gone which is the one that is replaced, or
-- which no table has, if there is one
abbrev pub FirstUnknown : ℕ → List Kept → List ℕ → Option ℕ → Type 0
FirstUnknown a all [] first = first ≡ None
FirstUnknown a all (gone ∷ more) first =
    (((gone ≡ a) ⊎ (IsAnywhere gone all → ⊥)) × (first ≡ Some gone))
    ⊎ ((gone ≢ a) × IsAnywhere gone all × FirstUnknown a all more first)

-- WHY NO TABLE OF ALL GEAR IS HAD: no table has the short address; one is said to be gone that no
-- table has, or that is replaced; or two tables disagree
abbrev pub IsNotTable : Replacement → List Kept → Failure → Type 0
IsNotTable wanted all failure =
    ((IsAnywhere wanted.short all → ⊥) × (failure ≡ NotReplaced wanted.short refusal.NotInTables))
    ⊎ (IsAnywhere wanted.short all
    × (((gone : ℕ)
    × FirstUnknown wanted.short all wanted.missing.items (Some gone)
    × (failure ≡ NotReplaced gone refusal.NotMissing))
    ⊎ (FirstUnknown wanted.short all wanted.missing.items None
    × ((other : ℕ) × (failure ≡ NotReplaced other refusal.Disagree)))))
