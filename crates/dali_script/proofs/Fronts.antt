use Rattle.std.proofs.Common.{◌≡◌, ℕ, ◌+◌, ◌<◌, ◌≤◌, ◌⊎◌, inl, inr, Bool, true, false, Option, Some, None, List, [], ◌∷◌, ◌++◌, refl, sym, ap, subst, ◌∙◌}
use Rattle.std.proofs.Common.{arith, length, map, get_or, ◌≢◌, replicate, take, drop, set, ◌-◌, length-set, take-take, get_or-set_same, get_or-set_other, suc}
use Rattle.std.proofs.Common.{◌↔◌, IsSome, IfSome, MatchOption}
use Rattle.std.proofs.{Math.Seq.paste, lemmas.Bool.cases_eq, lemmas.Bool.cases_lt, lemmas.List.take_more, lemmas.List.get_or-replicate}
use Rattle.std.proofs.lemmas.List.{length-replicate, get_or_past, get_or-drop, drop-take, length-drop, Edits.take-paste, Edits.drop-paste, Edits.length-paste}
use Rattle.std.specs.List.{remove}
use Rattle.dali_frame.specs.Random.{MASK24}
use Rattle.dali_script.specs.Records.{Assignment, Has, HasAddress, HasRandom, InBlock, Marks, IsFresh, AreEnrolled}
use Rattle.dali_script.specs.declared.block.Block.{Block}
use Rattle.dali_script.proofs.Lists.{has_map, next_there, next_fresh, map_none, map_more, all_more}

-- THE PAIR AT A PLACE
pub address_at : (xs : List Assignment) (i : ℕ) (p : Assignment) → i < length xs → p ≡ get_or xs i p → HasAddress xs p.0
address_at xs i p inside is = has_map (λ q. q.0) xs p (next_there xs i p inside is)

pub random_at : (xs : List Assignment) (i : ℕ) (p : Assignment) → i < length xs → p ≡ get_or xs i p → HasRandom xs p.1
random_at xs i p inside is = has_map (λ q. q.1) xs p (next_there xs i p inside is)

pub take_next : (xs : List Assignment) (i : ℕ) (p : Assignment) → i < length xs → p ≡ get_or xs i p → take (i + 1) xs ≡ take i xs ++ p ∷ []
take_next xs i p inside is = take_more xs i p inside ∙ ap (λ q. take i xs ++ q ∷ []) (sym is)

-- which key stands in a list with one pair more
key_cases : (key : Assignment → ℕ) (xs : List Assignment) (p : Assignment) (n : ℕ) → Has (map key (xs ++ p ∷ [])) n → Has (map key xs) n ⊎ (key p ≡ n)
key_cases key [] p n (inl e) = inr e
key_cases key [] p n (inr h) = elim h [ ]
key_cases key (x ∷ xs) p n (inl e) = inl (inl e)
key_cases key (x ∷ xs) p n (inr h) = go (key_cases key xs p n h) where
  go : Has (map key xs) n ⊎ (key p ≡ n) → Has (map key (x ∷ xs)) n ⊎ (key p ≡ n)
  go (inl k) = inl (inr k)
  go (inr e) = inr e

key_before : (key : Assignment → ℕ) (xs : List Assignment) (p : Assignment) (n : ℕ) → Has (map key xs) n → Has (map key (xs ++ p ∷ [])) n
key_before key [] p n h = elim h [ ]
key_before key (x ∷ xs) p n (inl e) = inl e
key_before key (x ∷ xs) p n (inr h) = inr (key_before key xs p n h)

key_last : (key : Assignment → ℕ) (xs : List Assignment) (p : Assignment) → Has (map key (xs ++ p ∷ [])) (key p)
key_last key [] p = inl refl
key_last key (x ∷ xs) p = inr (key_last key xs p)

-- WITHIN A BLOCK
pub within_more : (b : Block) (xs : List Assignment) (i : ℕ) (p : Assignment) → i < length xs → p ≡ get_or xs i p
    → ((a : ℕ) → HasAddress (take i xs) a → InBlock b a) → InBlock b p.0
    → (a : ℕ) → HasAddress (take (i + 1) xs) a → InBlock b a
within_more b xs i p inside is all here a has = go (key_cases (λ q. q.0) (take i xs) p a (subst (λ ys. HasAddress ys a) (take_next xs i p inside is) has)) where
  go : HasAddress (take i xs) a ⊎ (p.0 ≡ a) → InBlock b a
  go (inl before) = all a before
  go (inr same) = subst (InBlock b) same here

-- ONE PAIR MORE
pub enrolled_none : AreEnrolled []
enrolled_none = record { map = map_none; drawn = λ r has. absurd has }

pub enrolled_more : (xs : List Assignment) (i : ℕ) (p : Assignment) → i < length xs → p ≡ get_or xs i p → AreEnrolled (take i xs)
    → IsFresh (take i xs) p × (p.0 < 64) × (p.1 < MASK24)
    → AreEnrolled (take (i + 1) xs)
enrolled_more xs i p inside is are next = subst AreEnrolled (sym (take_next xs i p inside is)) (record {
  map = map_more (take i xs) p.0 p.1 are.map next.0.0 next.0.1 next.1;
  drawn = all_more (λ q. q.1) (λ n. n < MASK24) (take i xs) p are.drawn next.2;
})

pub next_enrolled : (xs : List Assignment) (i : ℕ) (p : Assignment) → i < length xs → p ≡ get_or xs i p → AreEnrolled xs
    → IsFresh (take i xs) p × (p.0 < 64) × (p.1 < MASK24)
next_enrolled xs i p inside is are =
    (next_fresh xs i p are.map inside is, are.map.short p.0 (address_at xs i p inside is), are.drawn p.1 (random_at xs i p inside is))

pub marks_none : Marks [] (replicate 64 false)
marks_none = record {
  all = refl;
  marked = λ a small. (
    λ is. absurd (let no : false ≡ true = sym (get_or-replicate 64 a false false small) ∙ is in cc),
    λ has. absurd has,
  );
}

pub marks_more : (xs : List Assignment) (i : ℕ) (p : Assignment) (marks : List Bool) → i < length xs → p ≡ get_or xs i p → p.0 < 64 → Marks (take i xs) marks
    → Marks (take (i + 1) xs) (set marks p.0 true)
marks_more xs i p marks inside is small m = subst (λ ys. Marks ys (set marks p.0 true)) (sym (take_next xs i p inside is)) (record {
  all = length-set marks p.0 true ∙ m.all;
  marked = λ a below. (only a below (cases_eq a p.0), other a below (cases_eq a p.0));
}) where
  before : List Assignment
  before = take i xs

  there : p.0 < length marks
  there = rw m.all small

  only : (a : ℕ) → a < 64 → (a ≡ p.0) ⊎ (a ≢ p.0) → get_or (set marks p.0 true) a false ≡ true → HasAddress (before ++ p ∷ []) a
  only a below (inl same) marked = subst (λ n. HasAddress (before ++ p ∷ []) n) (sym same) (key_last (λ q. q.0) before p)
  only a below (inr not_it) marked = key_before (λ q. q.0) before p a ((m.marked a below).0 (sym (get_or-set_other marks p.0 a true false not_it) ∙ marked))

  other : (a : ℕ) → a < 64 → (a ≡ p.0) ⊎ (a ≢ p.0) → HasAddress (before ++ p ∷ []) a → get_or (set marks p.0 true) a false ≡ true
  other a below (inl same) has = ap (λ b. get_or (set marks p.0 true) b false) same ∙ get_or-set_same marks p.0 true false there
  other a below (inr not_it) has = go (key_cases (λ q. q.0) before p a has) where
    go : HasAddress before a ⊎ (p.0 ≡ a) → get_or (set marks p.0 true) a false ≡ true
    go (inl k) = get_or-set_other marks p.0 a true false not_it ∙ (m.marked a below).1 k
    go (inr same) = absurd (not_it (sym same))

-- if a pair's short address is not marked
pub unmarked : (xs : List Assignment) (p : Assignment) (marks : List Bool) → Marks xs marks → p.0 < 64 → (HasAddress xs p.0 → ⊥)
    → get_or marks p.0 false ≡ false
unmarked xs p marks m small none = go (get_or marks p.0 false) refl where
  go : (b : Bool) → get_or marks p.0 false ≡ b → get_or marks p.0 false ≡ false
  go true is = absurd (none ((m.marked p.0 small).0 is))
  go false is = is

-- WHAT A TEST OF A NUMBER SAYS
pub short_found : (o : Option ℕ) (xs : List Assignment) (a r : ℕ) → IsSome o ↔ (a < 64) → IfSome o (λ s. s ≡ a) → a < 64 → Has xs (a, r)
    → MatchOption o (HasRandom xs r → ⊥) (λ s. Has xs (s, r))
short_found None xs a r range value small has = absurd (let some : false ≡ true = range.1 small in cc)
short_found (Some s) xs a r range value small has = subst (λ n. Has xs (n, r)) (sym value) has

-- one pair at each place
pub alike : (n i : ℕ) (p d : Assignment) → p ≡ d → get_or (replicate n p) i d ≡ d
alike n i p d is = subst (λ q. get_or (replicate n q) i d ≡ d) (sym is) (go (cases_lt i n)) where
  go : (i < n) ⊎ (n ≤ i) → get_or (replicate n d) i d ≡ d
  go (inl inside) = get_or-replicate n i d d inside
  go (inr past) = get_or_past (replicate n d) i d (rw (length-replicate n d) past)

-- A PAIR TAKEN OUT of the first n, by moving those after it down
pub removed : (xs : List Assignment) (i n : ℕ) → i < n → n ≤ length xs → take (n - 1) (paste xs i (drop (i + 1) xs) (n - (i + 1))) ≡ remove (take n xs) i
removed xs i n less few = go (n - (i + 1)) (omega arith) where
  go : (k : ℕ) → n ≡ (i + 1) + k → take (n - 1) (paste xs i (drop (i + 1) xs) k) ≡ remove (take n xs) i
  go k is =
      let front : n - 1 ≡ i + k = omega (arith, is) in
      let one : i + 1 ≡ suc i = omega arith in
      let rest : k ≤ length (drop (i + 1) xs) = omega (arith, is, length-drop (i + 1) xs) in
      rw (front) (take-paste xs i (drop (i + 1) xs) k (omega arith) rest)
      ∙ ap (λ ys. ys ++ take k (drop (i + 1) xs)) (sym (take-take i n xs (omega arith)))
      ∙ ap (λ ys. take i (take n xs) ++ ys) (sym (drop-take (i + 1) k xs) ∙ ap (λ m. drop (i + 1) (take m xs)) (sym is) ∙ ap (λ m. drop m (take n xs)) one)

-- and what is left behind those that are there, the place that became free with them
pub cleared : (xs : List Assignment) (i n : ℕ) (p : Assignment) → i < n → n ≤ length xs → ((j : ℕ) → n ≤ j → get_or xs j p ≡ p)
    → (j : ℕ) → n - 1 ≤ j → get_or (set (paste xs i (drop (i + 1) xs) (n - (i + 1))) (n - 1) p) j p ≡ p
cleared xs i n p less few all j past = go (cases_eq j (n - 1)) where
  k : ℕ
  k = n - (i + 1)

  ys : List Assignment
  ys = paste xs i (drop (i + 1) xs) k

  rest : k ≤ length (drop (i + 1) xs)
  rest = omega (arith, few, length-drop (i + 1) xs)

  room : n - 1 < length ys
  room = omega (arith, few, less, length-paste xs i (drop (i + 1) xs) k (omega (arith, less, few)) rest)

  front : i + k ≡ n - 1
  front = omega (arith, less)

  same : drop (n - 1) ys ≡ drop (n - 1) xs
  same = subst (λ m. drop m ys ≡ drop m xs) front (drop-paste xs i (drop (i + 1) xs) k (omega (arith, less, few)) rest)

  at : (n - 1) + (j - (n - 1)) ≡ j
  at = omega (arith, past)

  later : (j ≡ n - 1 → ⊥) → n ≤ j
  later other = omega (arith, past, other)

  go : (j ≡ n - 1) ⊎ (j ≡ n - 1 → ⊥) → get_or (set ys (n - 1) p) j p ≡ p
  go (inl e) = ap (λ m. get_or (set ys (n - 1) p) m p) e ∙ get_or-set_same ys (n - 1) p p room
  go (inr other) =
      get_or-set_other ys (n - 1) j p p other
      ∙ ap (λ m. get_or ys m p) (sym at)
      ∙ sym (get_or-drop (n - 1) ys (j - (n - 1)) p)
      ∙ ap (λ zs. get_or zs (j - (n - 1)) p) same
      ∙ get_or-drop (n - 1) xs (j - (n - 1)) p
      ∙ ap (λ m. get_or xs m p) at
      ∙ all j (later other)

pub least_found : (o : Option ℕ) (P : Type 0) (Q : ℕ → Type 0) (n : ℕ) → IsSome o ↔ (n < 64) → IfSome o (λ s. s ≡ n) → n < 64 → Q n → MatchOption o P Q
least_found None P Q n range value small is = absurd (let some : false ≡ true = range.1 small in cc)
least_found (Some s) P Q n range value small is = subst Q (sym value) is
