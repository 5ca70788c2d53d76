use Rattle.std.proofs.Common.{◌≡◌, ℕ, zero, suc, ◌+◌, ◌*◌, ◌<◌, ◌≤◌, ◌⊎◌, inl, inr, Bool, true, false, List, [], ◌∷◌, ◌++◌}
use Rattle.std.proofs.Common.{Option, Some, refl, ap, subst, sym, ◌∙◌, arith, length}
use Rattle.std.specs.Prelude.{slice_get, option_map, string_bytes, is_some}
use Rattle.std.proofs.lemmas.List.{append-nil, append_assoc}
use Rattle.std.specs.declared.{alloc.Global.Global, string.String.String}
use Rattle.dali_replacement.specs.declared.swap.Lies.{Lies}
use Rattle.dali_replacement.specs.declared.swapping.Swap.{Swap}
use Rattle.dali_replacement.specs.Swap.{lies_at, AreAt}
use Rattle.dali_replacement.specs.Swapping.{names_of, number_of}
use Rattle.dali_commission_stores.specs.Calls.{Look}
use Rattle.dali_commission_stores.specs.Seen.{LiesSo, AreLying, IsMoment}
use Rattle.dali_commission_stores.specs.Settling.{IsNamed, count_of}
use Rattle.dali_folder_laws.specs.Moments.{Itself, New, Journal, Old, Files, if_there, IsAt}
use Rattle.dali_folder_laws.specs.Stops.{Program, Sees}
use Rattle.dali_folder_laws.proofs.Times.{IsLikewise, unique}

-- what lies there of each of some files
abbrev pub EachLies : {F : Type 0} → (F → Look → Type 0) → F → ℕ → List (String Global) → List Lies → Type 0
EachLies saw x number [] [] = Unit {0}
EachLies saw x number (name ∷ more) (lies ∷ rest) = LiesSo saw x (string_bytes name) number lies × EachLies saw x number more rest
EachLies saw x number [] (lies ∷ rest) = ⊥
EachLies saw x number (name ∷ more) [] = ⊥

lying : {F : Type 0} (saw : F → Look → Type 0) (x : F) (number : ℕ) (names : List (String Global)) (before after : List Lies)
    → AreLying saw x number names before after → (these : List Lies) × (after ≡ before ++ these) × EachLies saw x number names these
lying saw x number [] before after same = ([], same ∙ sym (append-nil before), tt)
lying saw x number (name ∷ more) before after (lies, one, rest) =
    let all = lying saw x number more (before ++ lies ∷ []) after rest in
    (lies ∷ all.0, all.1 ∙ append_assoc before (lies ∷ []) all.0, (one, all.2))

as_many : {F : Type 0} (saw : F → Look → Type 0) (x : F) (number : ℕ) (names : List (String Global)) (these : List Lies)
    → EachLies saw x number names these → length these ≡ length names
as_many saw x number [] [] each = refl
as_many saw x number (name ∷ more) (lies ∷ rest) each = ap (λ (n : ℕ). suc n) (as_many saw x number more rest each.1)
as_many saw x number [] (lies ∷ rest) each = absurd (each)
as_many saw x number (name ∷ more) [] each = absurd (each)

one_lies : {F : Type 0} (saw : F → Look → Type 0) (x : F) (number n m k : ℕ) (names : List (String Global)) (these : List Lies)
    → EachLies saw x number names these → AreAt n m k these → (j : ℕ) → j < length names
    → (name : String Global) × (slice_get names j ≡ Some name) × LiesSo saw x (string_bytes name) number (lies_at n m (k + j))
one_lies saw x number n m k [] these each at j inside = absurd (omega (arith, inside))
one_lies saw x number n m k (name ∷ more) [] each at j inside = absurd (each)
one_lies saw x number n m k (name ∷ more) (lies ∷ rest) each at zero inside =
    let here : k ≡ k + 0 = omega arith in (
      name,
      refl,
      subst (λ (i : ℕ). LiesSo saw x (string_bytes name) number (lies_at n m i)) here
          (subst (λ (l : Lies). LiesSo saw x (string_bytes name) number l) at.0 each.0),
    )
one_lies saw x number n m k (name ∷ more) (lies ∷ rest) each at (suc j) inside =
    let one = one_lies saw x number n m (k + 1) more rest each.1 at.1 j (omega (arith, inside)) in
    let here : k + 1 + j ≡ k + suc j = omega arith in
    (one.0, one.1, subst (λ (i : ℕ). LiesSo saw x (string_bytes one.0) number (lies_at n m i)) here one.2)

there : (b : Bool) (it : List ℕ) → is_some (if_there b it) ≡ b
there true it = refl
there false it = refl

pub counted : (swap : Swap) → length (names_of swap) ≤ 64 → count_of swap ≡ length (names_of swap)
counted swap most = omega (arith, most)

-- WHAT IS SEEN of a folder at a moment is what lies there then
likewise : (swap : Swap) (files : Files) (m l : ℕ) (x : Program) → length (names_of swap) ≤ 64 → x.runs ≡ true → IsAt swap files m x.folder
    → IsMoment Sees swap x l → IsLikewise (count_of swap) m l
likewise swap files m l x most runs is (all, lie, last, at) i inside =
    let found = lying Sees x (number_of swap) (names_of swap) [] all lie in
    let many : length all ≡ count_of swap = ap (λ (ls : List Lies). length ls) found.1 ∙ as_many Sees x (number_of swap) (names_of swap) found.0 found.2
    ∙ sym (counted swap most) in
    let those = subst (λ (ls : List Lies). AreAt (length all) l 0 ls) found.1 at in
    let these = subst (λ (n : ℕ). AreAt n l 0 found.0) many those in
    let within : i < length (names_of swap) = subst (λ (n : ℕ). i < n) (counted swap most) inside in
    let one = one_lies Sees x (number_of swap) (count_of swap) l 0 (names_of swap) found.0 found.2 these i within in
    let named : IsNamed swap i (string_bytes one.0) = ap (λ (o : Option (String Global)). option_map (λ it. string_bytes it) o) one.1 in
    let same : 0 + i ≡ i = omega arith in
    let seen = subst (λ (j : ℕ). LiesSo Sees x (string_bytes one.0) (number_of swap) (lies_at (count_of swap) l j)) same one.2 in (
      seen.0 runs ∙ ap (λ (o : Option (List ℕ)). is_some o) (is.parts i Journal _ inside (string_bytes one.0, named, refl)) ∙ there _ _,
      seen.1 runs ∙ ap (λ (o : Option (List ℕ)). is_some o) (is.parts i New _ inside (string_bytes one.0, named, refl)) ∙ there _ _,
      seen.2 runs ∙ ap (λ (o : Option (List ℕ)). is_some o) (is.parts i Itself _ inside (string_bytes one.0, named, refl)) ∙ there _ _,
      seen.3 runs ∙ ap (λ (o : Option (List ℕ)). is_some o) (is.parts i Old _ inside (string_bytes one.0, named, refl)) ∙ there _ _,
    )

-- THE MOMENT THAT IS FOUND is the moment
pub found : (swap : Swap) (files : Files) (m l : ℕ) (x : Program) → length (names_of swap) ≤ 64 → x.runs ≡ true → m ≤ 4 * count_of swap
    → IsAt swap files m x.folder → IsMoment Sees swap x l → l ≡ m
found swap files m l x most runs inside is seen =
    go (seen) (unique (count_of swap) m l inside (likewise swap files m l x most runs is seen))
  where
    go : IsMoment Sees swap x l → (l ≡ m) ⊎ ((m ≡ 4 * count_of swap) × (4 * count_of swap < l)) → l ≡ m
    go (all, lie, last, at) (inl same) = same
    go (all, lie, last, at) (inr behind) =
        let these = lying Sees x (number_of swap) (names_of swap) [] all lie in
        let many : length all ≡ length (names_of swap) = ap (λ (ls : List Lies). length ls) these.1
        ∙ as_many Sees x (number_of swap) (names_of swap) these.0 these.2 in
        absurd (omega (arith, behind.1, last, many, counted swap most))
