use Rattle.std.proofs.Common.{◌≡◌, ℕ, ◌+◌, ◌<◌, ◌≤◌, Bool, true, false, [], ◌∷◌, ◌++◌, refl, sym, ap, subst, ◌∙◌, arith, nat_lt, if◌then◌else◌, zero, suc}
use Rattle.std.proofs.lemmas.Bool.Decides.{nat_tests}
use Rattle.dali_search.specs.{Least.probe_between, Narrowing.asked_of, Narrowing.answer_of, Narrowing.left_by, Narrowing.left_of, Narrowing.answers_of}

pub asked_within : (l : ℕ × ℕ) → l.0 ≤ l.1 → l.1 ≤ 0xFFFFFF → l.0 ≤ asked_of l + 1 × asked_of l ≤ l.1
asked_within l order top = (grind (arith, nat_tests), grind (arith, nat_tests))

pub narrowed_no : (l : ℕ × ℕ) (n : ℕ) → nat_lt (asked_of l) n ≡ true → left_by l n ≡ (asked_of l + 1, l.1)
narrowed_no l n less = ap (λ b. if b then (asked_of l + 1, l.1) else (l.0, asked_of l)) less

pub narrowed_yes : (l : ℕ × ℕ) (n : ℕ) → nat_lt (asked_of l) n ≡ false → left_by l n ≡ (l.0, asked_of l)
narrowed_yes l n less = ap (λ b. if b then (asked_of l + 1, l.1) else (l.0, asked_of l)) less

-- the least member is left
narrowed_within : (l : ℕ × ℕ) (n : ℕ) → l.0 ≤ n → n ≤ l.1 → l.1 ≤ 0xFFFFFF → (left_by l n).0 ≤ n × n ≤ (left_by l n).1 × (left_by l n).1 ≤ 0xFFFFFF
narrowed_within l n low high top = go (nat_lt (asked_of l) n) refl (asked_within l (omega (arith, low, high)) top) where
  go : (b : Bool) → nat_lt (asked_of l) n ≡ b → (l.0 ≤ asked_of l + 1 × asked_of l ≤ l.1)
      → (left_by l n).0 ≤ n × n ≤ (left_by l n).1 × (left_by l n).1 ≤ 0xFFFFFF
  go true less asked =
      let past : asked_of l < n = grind (arith, nat_tests) in
      rw (narrowed_no l n less) (omega (arith, past), high, top)
  go false less asked =
      let within : n ≤ asked_of l = grind (arith, nat_tests) in
      rw (narrowed_yes l n less) (low, within, omega (arith, asked.1, top))

pub left_within : (k n : ℕ) → n ≤ 0xFFFFFF → (left_of k n).0 ≤ n × n ≤ (left_of k n).1 × (left_of k n).1 ≤ 0xFFFFFF
left_within zero n small = (omega arith, small, omega arith)
left_within (suc k) n small =
    let before = left_within k n small in
    narrowed_within (left_of k n) n before.0 before.1 before.2

-- a number that is left too gives the same answer
narrowed_same : (l : ℕ × ℕ) (n m : ℕ) → l.0 ≤ n → n ≤ l.1 → l.1 ≤ 0xFFFFFF → (left_by l n).0 ≤ m → m ≤ (left_by l n).1
    → l.0 ≤ m × m ≤ l.1 × (nat_lt (asked_of l) m ≡ nat_lt (asked_of l) n)
narrowed_same l n m low high top from to = go (nat_lt (asked_of l) n) refl (asked_within l (omega (arith, low, high)) top) where
  go : (b : Bool) → nat_lt (asked_of l) n ≡ b → (l.0 ≤ asked_of l + 1 × asked_of l ≤ l.1) → l.0 ≤ m × m ≤ l.1 × (nat_lt (asked_of l) m ≡ nat_lt (asked_of l) n)
  go true less asked =
      let past : asked_of l + 1 ≤ m = rw (narrowed_no l n less) at from in
      let within : m ≤ l.1 = rw (narrowed_no l n less) at to in
      let less_too : nat_lt (asked_of l) m ≡ true = grind (arith, nat_tests) in
      (omega (arith, past, asked.0), within, less_too ∙ sym less)
  go false less asked =
      let past : l.0 ≤ m = rw (narrowed_yes l n less) at from in
      let within : m ≤ asked_of l = rw (narrowed_yes l n less) at to in
      let less_too : nat_lt (asked_of l) m ≡ false = grind (arith, nat_tests) in
      (past, omega (arith, within, asked.1), less_too ∙ sym less)

heard_same : (k n m : ℕ) → n ≤ 0xFFFFFF → (left_of k n).0 ≤ m → m ≤ (left_of k n).1 → (left_of k m ≡ left_of k n) × (answers_of k m ≡ answers_of k n)
heard_same zero n m small from to = (refl, refl)
heard_same (suc k) n m small from to =
    let before = left_within k n small in
    let same = narrowed_same (left_of k n) n m before.0 before.1 before.2 from to in
    let earlier = heard_same k n m small same.0 same.1 in (
      ap (λ l. left_by l m) earlier.0
          ∙ ap (λ b. if b then (asked_of (left_of k n) + 1, (left_of k n).1) else ((left_of k n).0, asked_of (left_of k n))) same.2,
      ap (λ xs. xs ++ answer_of (left_of k m) m ∷ []) earlier.1
          ∙ ap (λ l. answers_of k n ++ answer_of l m ∷ []) earlier.0
          ∙ ap (λ b. answers_of k n ++ (asked_of (left_of k n), if b then false else true) ∷ []) same.2,
    )

-- one more answer
pub heard_more : (k low high p next_low next_high : ℕ) (said : Bool) → left_of k low ≡ (low, high) → low < high → high ≤ 0xFFFFFF
    → p ≡ probe_between low high → low ≤ p × p < high → next_low ≡ (if said then low else p + 1) → next_high ≡ (if said then p else high)
    → (left_of (suc k) next_low ≡ (next_low, next_high)) × (answers_of (suc k) next_low ≡ answers_of k low ++ (p, said) ∷ [])
heard_more k low high p next_low next_high said here less top is within low_is high_is = go said low_is high_is where
  common : (m : ℕ) → low ≤ m → m ≤ high → (left_of k m ≡ (low, high)) × (answers_of k m ≡ answers_of k low)
  common m from to =
      let same = heard_same k low m (omega (arith, less, top)) (subst (λ l. l.0 ≤ m) (sym here) from) (subst (λ l. m ≤ l.1) (sym here) to) in
      (same.0 ∙ here, same.1)

  answer : (b said : Bool) → (nat_lt (asked_of (low, high)) next_low ≡ b) → (if b then false else true) ≡ said
      → (left_of k next_low ≡ (low, high)) × (answers_of k next_low ≡ answers_of k low)
      → answers_of (suc k) next_low ≡ answers_of k low ++ (p, said) ∷ []
  answer b said test gives same =
      ap (λ xs. xs ++ answer_of (left_of k next_low) next_low ∷ []) same.1
      ∙ ap (λ l. answers_of k low ++ answer_of l next_low ∷ []) same.0
      ∙ ap (λ t. answers_of k low ++ (asked_of (low, high), if t then false else true) ∷ []) test
      ∙ ap (λ t. answers_of k low ++ (asked_of (low, high), t) ∷ []) gives
      ∙ ap (λ q. answers_of k low ++ (q, said) ∷ []) (sym is)

  go : (said : Bool) → next_low ≡ (if said then low else p + 1) → next_high ≡ (if said then p else high)
      → (left_of (suc k) next_low ≡ (next_low, next_high)) × (answers_of (suc k) next_low ≡ answers_of k low ++ (p, said) ∷ [])
  go true low_is high_is =
      let same = common next_low (omega (arith, low_is)) (omega (arith, low_is, less)) in
      let small : next_low ≤ probe_between low high = subst (λ q. next_low ≤ q) is (omega (arith, low_is, within.0)) in
      let test : nat_lt (asked_of (low, high)) next_low ≡ false = grind (arith, nat_tests) in (
        ap (λ l. left_by l next_low) same.0 ∙ narrowed_yes (low, high) next_low test
            ∙ ap (λ n. (n, asked_of (low, high))) (sym low_is) ∙ ap (λ n. (next_low, n)) (sym is ∙ sym high_is),
        answer false true test refl same,
      )
  go false low_is high_is =
      let same = common next_low (omega (arith, low_is, within.0)) (omega (arith, low_is, within.1)) in
      let past : probe_between low high + 1 ≡ next_low = ap (λ q. q + 1) (sym is) ∙ sym low_is in
      let test : nat_lt (asked_of (low, high)) next_low ≡ true = grind (arith, nat_tests) in (
        ap (λ l. left_by l next_low) same.0 ∙ narrowed_no (low, high) next_low test
            ∙ ap (λ n. (n, high)) past ∙ ap (λ n. (next_low, n)) (sym high_is),
        answer true false test refl same,
      )
