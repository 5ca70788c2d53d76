-- The lists of a ring when the oldest item leaves, and the first list that is not empty.
use Rattle.std.proofs.Common.{◌≡◌, ℕ, zero, suc, ◌+◌, ◌-◌, ◌<◌, ◌≤◌, List, [], ◌∷◌, ◌++◌, length, refl, sym, ap, ◌∙◌, arith, subst, get_or, set, drop, true}
use Rattle.std.{proofs.Common.false, proofs.lemmas.List.Sums.sum_by-set, specs.List.sum_by, specs.List.slice_get, specs.Option.is_some, specs.Option.IsSome}
use Rattle.std.specs.{Option.IfSome, declared.option.Option.Option, declared.option.Option.TheVariants.Some, declared.option.Option.TheVariants.None}
use Rattle.dali_ring.specs.Linked.{waiting, IsLinked, IsAt}
use Rattle.dali_ring.specs.{Queues.Queues, Queues.first_from, Queues.with_list, Queues.list_of, declared.slots.Slot.Slot}

abbrev pub made : {X : Type 0} → List (List X) → ℕ → Queues X
made ls n = record { lists = ls; capacity = n }

module _ {X : Type 0} (s : List (Slot X)) (n : ℕ) (tails : List ℕ) (l : IsLinked s n tails) (p : ℕ) (low : p < 5)
    (item : Option X) (value : item ≡ slice_get (get_or (waiting s n) p []) 0) (there : is_some item ≡ true) where
  abbrev xs : List X
  xs = get_or (waiting s n) p []

  some : is_some (slice_get xs 0) ≡ true
  some = ap is_some (sym value) ∙ there

  pub pop_place : (us : List X) × (x : X) × (rest : List X) × IsAt s n p (n + p) us (x ∷ rest)
  pop_place = go xs refl some where
    go : (ys : List X) → ys ≡ xs → is_some (slice_get ys 0) ≡ true → (us : List X) × (x : X) × (rest : List X) × IsAt s n p (n + p) us (x ∷ rest)
    go [] is yet = absurd (cc)
    go (y ∷ ys) is yet = ([], y, ys, record { items = sym is; way = refl })

  module _ (s2 : List (Slot X)) (n2 : ℕ) (left : (us : List X) (x : X) (rest : List X) → IsAt s n p (n + p) us (x ∷ rest)
      → waiting s2 n2 ≡ set (waiting s n) p (us ++ rest)) where
    pub popped : waiting s2 n2 ≡ set (waiting s n) p (drop 1 xs)
    popped = go xs refl some where
      go : (ys : List X) → ys ≡ xs → is_some (slice_get ys 0) ≡ true → waiting s2 n2 ≡ set (waiting s n) p (drop 1 xs)
      go [] is yet = absurd (cc)
      go (y ∷ ys) is yet = left [] y ys (record { items = sym is; way = refl }) ∙ ap (λ zs. set (waiting s n) p (drop 1 zs)) is

    pub popped_sum : (k : ℕ) → k ≡ sum_by length (waiting s n) → k - 1 ≡ sum_by length (waiting s2 n2)
    popped_sum k is = go xs refl some where
      go : (ys : List X) → ys ≡ xs → is_some (slice_get ys 0) ≡ true → k - 1 ≡ sum_by length (waiting s2 n2)
      go [] not yet = absurd (cc)
      go (y ∷ ys) same yet =
          let one : sum_by length (set (waiting s n) p (drop 1 xs)) + length xs ≡ sum_by length (waiting s n) + length (drop 1 xs) =
          sum_by-set length (waiting s n) p (drop 1 xs) [] (omega (arith, l.five)) in
          let two : length xs ≡ suc (length ys) = ap length (sym same) in
          let three : length (drop 1 xs) ≡ length ys = ap (λ zs. length (drop 1 zs)) (sym same) in
          let four : sum_by length (waiting s2 n2) ≡ sum_by length (set (waiting s n) p (drop 1 xs)) = ap (sum_by length) popped in
          omega (arith, one, two, three, four, is)

    pub popped_view : (q : Queues X) (r : ℕ) → p ≡ r - 1 → n2 ≡ n → made (waiting s n) n ≡ q
        → made (waiting s2 n2) n2 ≡ with_list q r (drop 1 (list_of q r))
    popped_view q r rank same view =
        let this : made (waiting s2 n2) n2 ≡ with_list (made (waiting s n) n) r (drop 1 (list_of (made (waiting s n) n) r)) =
        subst (λ i. made (waiting s2 n2) n2 ≡ made (set (waiting s n) i (drop 1 (get_or (waiting s n) i []))) n) rank
        (ap (λ ls. made ls n2) popped ∙ ap (λ k. made (set (waiting s n) p (drop 1 xs)) k) same) in
        subst (λ (w : Queues X). made (waiting s2 n2) n2 ≡ with_list w r (drop 1 (list_of w r))) view this

-- what the search for the highest priority finds
pub best_found : {X : Type 0} (ls : List (List X)) (i k : ℕ) → is_some (slice_get (get_or ls i []) 0) ≡ true → first_from k (drop i ls) ≡ Some k
best_found [] zero k is = absurd (cc)
best_found [] (suc i) k is = absurd (cc)
best_found ([] ∷ ls) zero k is = absurd (cc)
best_found ((x ∷ more) ∷ ls) zero k is = refl
best_found (l ∷ ls) (suc i) k is = best_found ls i k is

pub best_next : {X : Type 0} (ls : List (List X)) (i k : ℕ) → is_some (slice_get (get_or ls i []) 0) ≡ false
    → first_from k (drop i ls) ≡ first_from (k + 1) (drop (suc i) ls)
best_next [] zero k is = refl
best_next [] (suc i) k is = refl
best_next ([] ∷ ls) zero k is = refl
best_next ((x ∷ more) ∷ ls) zero k is = absurd (cc)
best_next (l ∷ ls) (suc i) k is = best_next ls i k is

module _ {X : Type 0} (q : Queues X) (ws : List (List X)) (n number r : ℕ) (view : made ws n ≡ q) (same : r ≡ number) (least : 1 ≤ number)
    (item : Option X) (value : item ≡ slice_get (get_or ws (r - 1) []) 0)
    (so_far : first_from 1 q.lists ≡ first_from number (drop (number - 1) q.lists)) where
  here : item ≡ slice_get (get_or q.lists (number - 1) []) 0
  here = value ∙ ap (λ i. slice_get (get_or ws (i - 1) []) 0) same ∙ ap (λ (w : Queues X). slice_get (get_or w.lists (number - 1) []) 0) view

  pub best_at : is_some item ≡ true → (o : Option ℕ) → IsSome o → IfSome o (λ a. a ≡ number) → o ≡ first_from 1 q.lists
  best_at found (Some a) some is = ap (λ b. Some b) is ∙ sym (so_far ∙ best_found q.lists (number - 1) number (ap is_some (sym here) ∙ found))
  best_at found None some is = absurd (cc)

  pub best_on : is_some item ≡ false → first_from 1 q.lists ≡ first_from (number + 1) (drop (number + 1 - 1) q.lists)
  best_on past =
      let step : suc (number - 1) ≡ number + 1 - 1 = omega (arith, least) in
      so_far ∙ best_next q.lists (number - 1) number (ap is_some (sym here) ∙ past) ∙ ap (λ i. first_from (number + 1) (drop i q.lists)) step
