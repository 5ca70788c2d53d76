use Rattle.std.proofs.Common.{◌≡◌, ℕ, ◌+◌, ◌<◌, ◌≤◌, ◌⊎◌, inl, inr, Bool, true, false, List, [], ◌∷◌, refl, sym, ap, subst, ◌∙◌, arith, length, get_or, ◌≢◌}
use Rattle.std.proofs.Common.{replicate, set, length-set, get_or-set_same, get_or-set_other, zero, suc, nat_lt}
use Rattle.std.proofs.lemmas.{Bool.cases_eq, List.get_or-replicate}
use Rattle.dali_script.specs.{Pairs.last_bits, Pairs.random_at, Pairs.IsLast, Pairs.AreBefore, Pairs.AreLast, Records.Assignment, Records.HasRandom}
use Rattle.dali_script.proofs.Lists.{has_at, has_map}

-- A RANDOM ADDRESS IS LOOKED FOR among the pairs, from the last one with its last bits on: those that come after are others.
pub record Searched (xs : List Assignment) (r at : ℕ) : Type 0 where
  pub inside : at ≤ length xs
  pub there : (i : ℕ) → at ≡ i + 1 → last_bits (random_at xs i) ≡ last_bits r
  pub others : (i : ℕ) → at ≤ i → i < length xs → random_at xs i ≡ r → ⊥

-- the pair at a place, whatever stands if there is none
pub random_here : (xs : List Assignment) (i : ℕ) (p : Assignment) → i < length xs → p ≡ get_or xs i p → random_at xs i ≡ p.1
random_here [] i p inside is = absurd (omega (arith, inside))
random_here (x ∷ xs) zero p inside is = sym (ap (λ q. q.1) is)
random_here (x ∷ xs) (suc i) p inside is = random_here xs i p (omega (arith, inside)) is

pub searched_first : (xs : List Assignment) (r at : ℕ) → IsLast xs (length xs) (last_bits r) at → Searched xs r at
searched_first xs r at l = record {
  inside = l.inside;
  there = l.there;
  others = λ i from inside same. l.none_after i from inside (ap last_bits same);
}

pub searched_more : (xs : List Assignment) (befores : List ℕ) (r i : ℕ) → AreBefore xs (length xs) befores → Searched xs r (i + 1) → (random_at xs i ≡ r → ⊥)
    → Searched xs r (get_or befores i 0)
searched_more xs befores r i b s apart = record {
  inside = omega (arith, l.inside, s.inside);
  there = λ j at. l.there j at ∙ bits;
  others = λ j from inside same. other j from inside same (cases_eq j i);
} where
  bits : last_bits (random_at xs i) ≡ last_bits r
  bits = s.there i refl

  l : IsLast xs i (last_bits (random_at xs i)) (get_or befores i 0)
  l = b.before i (omega (arith, s.inside))

  other : (j : ℕ) → get_or befores i 0 ≤ j → j < length xs → random_at xs j ≡ r → (j ≡ i) ⊎ (j ≢ i) → ⊥
  other j from inside same (inl here) = apart (ap (random_at xs) (sym here) ∙ same)
  other j from inside same (inr not_here) = go (nat_lt j i) refl where
    go : (t : Bool) → nat_lt j i ≡ t → ⊥
    go true before = l.none_after j from (grind arith) (ap last_bits same ∙ sym bits)
    go false after = s.others j (grind arith) inside same

pub searched_found : (xs : List Assignment) (r i : ℕ) → i < length xs → random_at xs i ≡ r → HasRandom xs r
searched_found xs r i inside same = subst (HasRandom xs) same (has_map (λ p. p.1) xs (get_or xs i (0, 0)) (has_at xs i (0, 0) inside))

-- where a random address stands
place_of : (xs : List Assignment) (r : ℕ) → HasRandom xs r → (i : ℕ) × (i < length xs) × (random_at xs i ≡ r)
place_of [] r has = elim has [ ]
place_of (x ∷ xs) r (inl same) = (zero, omega arith, same)
place_of (x ∷ xs) r (inr has) = let k = place_of xs r has in (suc k.0, omega (arith, k.1), k.2)

pub searched_none : (xs : List Assignment) (r : ℕ) → Searched xs r 0 → HasRandom xs r → ⊥
searched_none xs r s has = let k = place_of xs r has in s.others k.0 (omega arith) k.1 k.2

-- ONE PAIR MORE
last_none : (xs : List Assignment) (bits : ℕ) → IsLast xs 0 bits 0
last_none xs bits = record { inside = omega arith; there = λ i is. absurd (omega (arith, is)); none_after = λ i from before same. omega (arith, before) }

pub before_none : (xs : List Assignment) → AreBefore xs 0 (replicate 64 0)
before_none xs = record { all = refl; before = λ i less. absurd (omega (arith, less)) }

pub are_last_none : (xs : List Assignment) → AreLast xs 0 (replicate 64 0)
are_last_none xs = record { all = refl; last = λ bits small. subst (IsLast xs 0 bits) (sym (get_or-replicate 64 bits 0 0 small)) (last_none xs bits) }

pub before_more : (xs : List Assignment) (n at : ℕ) (befores : List ℕ) → n < 64 → AreBefore xs n befores → IsLast xs n (last_bits (random_at xs n)) at
    → AreBefore xs (n + 1) (set befores n at)
before_more xs n at befores room b l = record {
  all = length-set befores n at ∙ b.all;
  before = λ i less. go i less (cases_eq i n);
} where
  there : n < length befores
  there = rw b.all room

  go : (i : ℕ) → i < n + 1 → (i ≡ n) ⊎ (i ≢ n) → IsLast xs i (last_bits (random_at xs i)) (get_or (set befores n at) i 0)
  go i less (inl here) = subst (λ m. IsLast xs m (last_bits (random_at xs m)) (get_or (set befores n at) m 0)) (sym here)
      (subst (IsLast xs n (last_bits (random_at xs n))) (sym (get_or-set_same befores n at 0 there)) l)
  go i less (inr not_here) =
      subst (IsLast xs i (last_bits (random_at xs i))) (sym (get_or-set_other befores n i at 0 not_here)) (b.before i (omega (arith, less, not_here)))

pub last_more : (xs : List Assignment) (n bits : ℕ) (lasts : List ℕ) → bits ≡ last_bits (random_at xs n) → bits < 64 → AreLast xs n lasts
    → AreLast xs (n + 1) (set lasts bits (n + 1))
last_more xs n bits lasts its small a = record {
  all = length-set lasts bits (n + 1) ∙ a.all;
  last = λ other less. go other less (cases_eq other bits);
} where
  there : bits < length lasts
  there = rw a.all small

  here : IsLast xs (n + 1) bits (n + 1)
  here = record {
    inside = omega arith;
    there = λ i is. let at : n ≡ i = omega (arith, is) in sym (its ∙ ap (λ m. last_bits (random_at xs m)) at);
    none_after = λ i from before same. omega (arith, from, before);
  }

  go : (other : ℕ) → other < 64 → (other ≡ bits) ⊎ (other ≢ bits) → IsLast xs (n + 1) other (get_or (set lasts bits (n + 1)) other 0)
  go other less (inl same) = subst (λ m. IsLast xs (n + 1) m (get_or (set lasts bits (n + 1)) m 0)) (sym same)
      (subst (IsLast xs (n + 1) bits) (sym (get_or-set_same lasts bits (n + 1) 0 there)) here)
  go other less (inr not_it) = subst (IsLast xs (n + 1) other) (sym (get_or-set_other lasts bits other (n + 1) 0 not_it)) (record {
    inside = omega (arith, l.inside);
    there = l.there;
    none_after = λ i from before same. after i from before same (cases_eq i n);
  }) where
    l : IsLast xs n other (get_or lasts other 0)
    l = a.last other less

    after : (i : ℕ) → get_or lasts other 0 ≤ i → i < n + 1 → last_bits (random_at xs i) ≡ other → (i ≡ n) ⊎ (i ≢ n) → ⊥
    after i from before same (inl at) = not_it (sym same ∙ ap (λ m. last_bits (random_at xs m)) at ∙ sym its)
    after i from before same (inr not_at) = l.none_after i from (omega (arith, before, not_at)) same
