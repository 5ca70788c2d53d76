use Rattle.std.proofs.Common.{◌≡◌, ℕ, zero, suc, ◌+◌, ◌<◌, ◌≤◌, ◌/◌, ◌%◌, Bool, true, false}
use Rattle.std.proofs.Common.{List, [], ◌∷◌, ◌++◌, Option, Some, None, refl, ap, subst, sym, ◌∙◌, arith, length}
use Rattle.std.specs.Prelude.{◌==◌, IsSome, is_some, if◌then◌else◌, cond, ltb, codes, decimal, slice_get, option_map, string_bytes}
use Rattle.std.specs.Fmt.{digit_glyph, digits_onto, digits}
use Rattle.std.proofs.lemmas.List.{append_assoc, append_cancel_right}
use Rattle.std.proofs.lemmas.Option.{slice_get_within}
use Rattle.std.specs.declared.{alloc.Global.Global, string.String.String}
use Rattle.dali_replacement.specs.declared.swapping.Swap.{Swap}
use Rattle.dali_replacement.specs.Swapping.{names_of, number_of}
use Rattle.dali_commission_stores.specs.Settling.{new_at, journal_at, kept_at, IsNamed, count_of}
use Rattle.dali_folder_laws.specs.Folder.{Folder}
use Rattle.dali_folder_laws.specs.Moments.{Part, Itself, New, Journal, Old, name_with, AreApart, Differ, MayBegin, Files, IsBefore}
use Rattle.dali_folder_laws.proofs.Looked.{counted}

-- THE LAST SIGN of a text
abbrev last : List ℕ → ℕ
last [] = 0
last (c ∷ []) = c
last (c ∷ d ∷ more) = last (d ∷ more)

last_is : (a : List ℕ) (c : ℕ) → last (a ++ c ∷ []) ≡ c
last_is [] c = refl
last_is (x ∷ []) c = refl
last_is (x ∷ y ∷ more) c = last_is (y ∷ more) c

-- that of a number is a digit
onto : (k n : ℕ) (d : List ℕ) → digits_onto k 10 false n d ≡ digits_onto k 10 false n [] ++ d
onto zero n d = refl
onto (suc k) n d = go (n / 10 == 0) (onto k (n / 10) (digit_glyph false (n % 10) ∷ d)) (onto k (n / 10) (digit_glyph false (n % 10) ∷ []))
  where
    glyph : List ℕ
    glyph = digit_glyph false (n % 10) ∷ []

    go : (b : Bool) → digits_onto k 10 false (n / 10) (digit_glyph false (n % 10) ∷ d) ≡ digits_onto k 10 false (n / 10) [] ++ digit_glyph false (n % 10) ∷ d
        → digits_onto k 10 false (n / 10) (digit_glyph false (n % 10) ∷ []) ≡ digits_onto k 10 false (n / 10) [] ++ digit_glyph false (n % 10) ∷ []
        → (if b then digit_glyph false (n % 10) ∷ d else digits_onto k 10 false (n / 10) (digit_glyph false (n % 10) ∷ d))
        ≡ (if b then digit_glyph false (n % 10) ∷ [] else digits_onto k 10 false (n / 10) (digit_glyph false (n % 10) ∷ [])) ++ d
    go true all one = refl
    go false all one = all ∙ sym (append_assoc (digits_onto k 10 false (n / 10) []) glyph d) ∙ ap (λ (xs : List ℕ). xs ++ d) (sym one)

ends_so : (n : ℕ) → (front : List ℕ) × (decimal n ≡ front ++ digit_glyph false (n % 10) ∷ [])
unfolding digits
ends_so n = go (n / 10 == 0)
  where
    go : (b : Bool) → (front : List ℕ) × ((if b then digit_glyph false (n % 10) ∷ [] else digits_onto 63 10 false (n / 10) (digit_glyph false (n % 10) ∷ []))
        ≡ front ++ digit_glyph false (n % 10) ∷ [])
    go true = ([], refl)
    go false = (digits_onto 63 10 false (n / 10) [], onto 63 (n / 10) (digit_glyph false (n % 10) ∷ []))

digit : (d : ℕ) → d < 10 → digit_glyph false d < 97
digit d small = go (ltb d 10)
  where
    go : (b : Bool) → cond b (48 + d) (87 + d) < 97
    go true = omega (arith, small)
    go false = omega (arith, small)

-- the ends of names
new_end : (a : List ℕ) → last (new_at a) ≡ 119
new_end a = ap last (sym (append_assoc a (46 ∷ 110 ∷ 101 ∷ []) (119 ∷ []))) ∙ last_is (a ++ 46 ∷ 110 ∷ 101 ∷ []) 119

journal_end : (a : List ℕ) → last (journal_at a) ≡ 103
journal_end a =
    let front : List ℕ = 46 ∷ 114 ∷ 101 ∷ 112 ∷ 108 ∷ 97 ∷ 99 ∷ 105 ∷ 110 ∷ [] in
    ap last (sym (append_assoc a front (103 ∷ []))) ∙ last_is (a ++ front) 103

kept_end : (a : List ℕ) (n : ℕ) → last (kept_at a n) < 97
kept_end a n =
    let so = ends_so n in
    let front : List ℕ = a ++ (codes ".before-" ++ so.0) in
    let whole : kept_at a n ≡ front ++ digit_glyph false (n % 10) ∷ [] =
    ap (λ (d : List ℕ). a ++ (codes ".before-" ++ d)) so.1
    ∙ ap (λ (d : List ℕ). a ++ d) (sym (append_assoc (codes ".before-") so.0 (digit_glyph false (n % 10) ∷ [])))
    ∙ sym (append_assoc a (codes ".before-" ++ so.0) (digit_glyph false (n % 10) ∷ [])) in
    let end : last (kept_at a n) ≡ digit_glyph false (n % 10) = ap last whole ∙ last_is front (digit_glyph false (n % 10)) in
    let small = digit (n % 10) (omega arith) in
    omega (arith, end, small)

some_none : (o : Option (List ℕ)) → IsSome o → o ≡ None → ⊥
some_none None some none = absurd (cc)
some_none (Some it) some none = absurd (cc)

-- each file is there, and nothing lies where its journal and the old file are to lie
abbrev pub IsVacant : Swap → Folder → Type 0
IsVacant swap x =
    (i : ℕ) (name : List ℕ) → IsNamed swap i name → IsSome (x name) × (x (journal_at name) ≡ None) × (x (kept_at name (number_of swap)) ≡ None)

-- NAMES THAT DIFFER ARE APART, with all that lies beside them
same : (swap : Swap) (x : Folder) (i j : ℕ) (a b : List ℕ) → Differ swap → IsVacant swap x → IsNamed swap i a → IsNamed swap j b → (p q : Part)
    → name_with p a (number_of swap) ≡ name_with q b (number_of swap) → (i ≡ j) × (p ≡ q)
same swap x i j a b differ vacant is other Itself Itself one = ((differ i j a b is other).0 one, refl)
same swap x i j a b differ vacant is other New New one = ((differ i j a b is other).0 (append_cancel_right a b _ one), refl)
same swap x i j a b differ vacant is other Journal Journal one = ((differ i j a b is other).0 (append_cancel_right a b _ one), refl)
same swap x i j a b differ vacant is other Old Old one = ((differ i j a b is other).0 (append_cancel_right a b _ one), refl)
same swap x i j a b differ vacant is other Itself New one = absurd ((differ i j a b is other).1 one)
same swap x i j a b differ vacant is other New Itself one = absurd ((differ j i b a other is).1 (sym one))
same swap x i j a b differ vacant is other Itself Journal one = absurd (some_none (x a) (vacant i a is).0 (ap x one ∙ (vacant j b other).1))
same swap x i j a b differ vacant is other Journal Itself one = absurd (some_none (x b) (vacant j b other).0 (ap x (sym one) ∙ (vacant i a is).1))
same swap x i j a b differ vacant is other Itself Old one = absurd (some_none (x a) (vacant i a is).0 (ap x one ∙ (vacant j b other).2))
same swap x i j a b differ vacant is other Old Itself one = absurd (some_none (x b) (vacant j b other).0 (ap x (sym one) ∙ (vacant i a is).2))
same swap x i j a b differ vacant is other New Journal one =
    let ends = sym (new_end a) ∙ ap last one ∙ journal_end b in absurd (omega (arith, ends))
same swap x i j a b differ vacant is other Journal New one =
    let ends = sym (journal_end a) ∙ ap last one ∙ new_end b in absurd (omega (arith, ends))
same swap x i j a b differ vacant is other New Old one =
    let ends = sym (new_end a) ∙ ap last one in let small = kept_end b (number_of swap) in absurd (omega (arith, ends, small))
same swap x i j a b differ vacant is other Old New one =
    let ends = sym (new_end b) ∙ ap last (sym one) in let small = kept_end a (number_of swap) in absurd (omega (arith, ends, small))
same swap x i j a b differ vacant is other Journal Old one =
    let ends = sym (journal_end a) ∙ ap last one in let small = kept_end b (number_of swap) in absurd (omega (arith, ends, small))
same swap x i j a b differ vacant is other Old Journal one =
    let ends = sym (journal_end b) ∙ ap last (sym one) in let small = kept_end a (number_of swap) in absurd (omega (arith, ends, small))

apart : (swap : Swap) (x : Folder) → Differ swap → IsVacant swap x → AreApart swap
apart swap x differ vacant i j p q at (a, is, at_a) (b, other, at_b) =
    same swap x i j a b differ vacant is other p q (sym at_a ∙ at_b)

-- so they are before an exchange
within : (swap : Swap) (i : ℕ) (name : List ℕ) → IsNamed swap i name → i < length (names_of swap)
within swap i name is = go (slice_get (names_of swap) i) refl is
  where
    go : (o : Option (String Global)) → slice_get (names_of swap) i ≡ o → option_map (λ it. string_bytes it) o ≡ Some name → i < length (names_of swap)
    go (Some it) has its = slice_get_within (names_of swap) i it has
    go None has its = absurd (cc)

vacant : (swap : Swap) (files : Files) (x : Folder) → length (names_of swap) ≤ 64 → IsBefore swap files x → IsVacant swap x
vacant swap files x most before i name is =
    let inside : i < count_of swap = subst (λ (n : ℕ). i < n) (sym (counted swap most)) (within swap i name is) in (
      ap is_some (before.parts i Itself name inside (name, is, refl)),
      before.parts i Journal (journal_at name) inside (name, is, refl),
      before.parts i Old (kept_at name (number_of swap)) inside (name, is, refl),
    )

pub may_begin : (swap : Swap) (files : Files) (x : Folder) → length (names_of swap) ≤ 64 → Differ swap → IsBefore swap files x → MayBegin swap
may_begin swap files x most differ before = record {
  most = most;
  apart = apart swap x differ (vacant swap files x most before);
}
