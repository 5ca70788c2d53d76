use Rattle.std.proofs.Common.{◌≡◌, ℕ, ◌<◌, ◌≤◌, ◌⊎◌, inl, inr, Bool, true, false, List, [], ◌∷◌, refl, sym, ap, subst, ◌∙◌, arith, nat_lt, Option, Some, None}
use Rattle.std.proofs.Common.{◌==◌, ◌||◌, ◌&&◌, MatchOption, is_some}
use Rattle.std.{proofs.lemmas.Bool.Decides.nat_tests, specs.List.list_any}
use Rattle.dali_frame.specs.{Random.value_of, Random.MASK24, declared.numbers.SearchAddress.SearchAddress}
use Rattle.dali_script.specs.Records.{Assignment, Has, IsOnce, randoms, HasAddress, HasRandom, InBlock, IsMap, AllDrawn}
use Rattle.dali_script.specs.{Scripts.MayGive, Stages.in_block, Stages.may_give, Stages.may_give_some, declared.block.Block.Block}
use Rattle.dali_script.proofs.Lists.{has_map}

both : (a b : Bool) → a ≡ true → b ≡ true → (a && b) ≡ true
both a b first second = rw (first, second) refl

pub first_of_both : (a b : Bool) → (a && b) ≡ true → a ≡ true
first_of_both true b e = refl
first_of_both false b e = e

pub second_of_both : (a b : Bool) → (a && b) ≡ true → b ≡ true
second_of_both true b e = e
second_of_both false b e = absurd (cc)

not_second : (a b : Bool) → b ≡ false → (a && b) ≡ false
not_second true b e = e
not_second false b e = refl

either_true : (a b : Bool) → (a || b) ≡ true → (a ≡ true) ⊎ (b ≡ true)
either_true true b e = inl refl
either_true false b e = inr e

second_of_either : (a b : Bool) → b ≡ true → (a || b) ≡ true
second_of_either true b e = refl
second_of_either false b e = e

false_of_not : (a : Bool) → (a ≡ true → ⊥) → a ≡ false
false_of_not true none = absurd (none refl)
false_of_not false none = refl

-- a test over a list finds an element
pub any_by_member : {A : Type 0} (test : A → Bool) (xs : List A) (x : A) → Has xs x → test x ≡ true → list_any test xs ≡ true
any_by_member test [] x h e = elim h [ ]
any_by_member test (y ∷ xs) x (inl same) e = rw (ap test same ∙ e) refl
any_by_member test (y ∷ xs) x (inr h) e = second_of_either (test y) (list_any test xs) (any_by_member test xs x h e)

pub member_by_any : {A : Type 0} (test : A → Bool) (xs : List A) → list_any test xs ≡ true → (x : A) × Has xs x × (test x ≡ true)
member_by_any {A} test [] e = absurd (cc)
member_by_any {A} test (y ∷ xs) e = go (either_true (test y) (list_any test xs) e) (member_by_any test xs) where
  go : (test y ≡ true) ⊎ (list_any test xs ≡ true) → (list_any test xs ≡ true → (x : A) × Has xs x × (test x ≡ true))
      → (x : A) × Has (y ∷ xs) x × (test x ≡ true)
  go (inl here) later = (y, inl refl, here)
  go (inr more) later = let found = later more in (found.0, inr found.1, found.2)

-- two pairs of one number are one pair
pub one_address : (xs : List Assignment) (a c n : ℕ) → IsOnce (randoms xs) → Has xs (a, n) → Has xs (c, n) → a ≡ c
one_address [] a c n once h k = elim h [ ]
one_address (p ∷ xs) a c n once (inl e) (inl d) = ap (λ q. q.0) (sym e ∙ d)
one_address (p ∷ xs) a c n once (inl e) (inr k) = absurd (once.0 (subst (λ m. Has (randoms xs) m) (ap (λ q. q.1) (sym e)) (has_map (λ q. q.1) xs (c, n) k)))
one_address (p ∷ xs) a c n once (inr h) (inl d) = absurd (once.0 (subst (λ m. Has (randoms xs) m) (ap (λ q. q.1) (sym d)) (has_map (λ q. q.1) xs (a, n) h)))
one_address (p ∷ xs) a c n once (inr h) (inr k) = one_address xs a c n once.1 h k

moved : (xs : List Assignment) (a n : ℕ) (p : Assignment) → p.0 ≡ a → p.1 ≡ n → Has xs p → Has xs (a, n)
moved xs a n p first second h = subst (λ m. Has xs (a, m)) second (subst (λ m. Has xs (m, p.1)) first h)

pair_of_test : (xs : List Assignment) (a n : ℕ) → list_any (λ p. (p.0 == a) && (p.1 == n)) xs ≡ true → Has xs (a, n)
pair_of_test xs a n e =
    let found = member_by_any (λ p. (p.0 == a) && (p.1 == n)) xs e in
    from found.0 found.1 found.2
  where
    from : (p : Assignment) → Has xs p → ((p.0 == a) && (p.1 == n)) ≡ true → Has xs (a, n)
    from p h t =
        let first : p.0 ≡ a = grind (arith, nat_tests) in
        let second : p.1 ≡ n = grind (arith, nat_tests) in
        moved xs a n p first second h

test_of_pair : (xs : List Assignment) (a n : ℕ) → Has xs (a, n) → list_any (λ p. (p.0 == a) && (p.1 == n)) xs ≡ true
test_of_pair xs a n h = any_by_member (λ p. (p.0 == a) && (p.1 == n)) xs (a, n) h (self a n) where
  self : (b m : ℕ) → ((b == b) && (m == m)) ≡ true
  self b m = grind (arith, nat_tests)

in_block_by : (b : Block) (a : ℕ) → InBlock b a → in_block b a ≡ true
in_block_by b a within =
    let low : b.first ≤ a = within.0 in
    let high : a ≤ b.last = within.1 in
    grind (arith, nat_tests)

below_by : (n m : ℕ) → n < m → nat_lt n m ≡ true
below_by n m h = grind (arith, nat_tests)

-- the test of what may be given
pub may_give_by : (b : Block) (xs : List Assignment) (r : SearchAddress) (a : ℕ) → MayGive b xs r a → may_give b xs (value_of r) a ≡ true
may_give_by b xs r a g = both _ _ (both _ _ (below_by (value_of r) MASK24 g.drawn) (in_block_by b a g.within)) (test_of_pair xs a (value_of r) g.reserved_for)

pub may_give_from : (b : Block) (xs : List Assignment) (r : SearchAddress) (a : ℕ) → may_give b xs (value_of r) a ≡ true → MayGive b xs r a
may_give_from b xs r a e =
    let drawn_in : (nat_lt (value_of r) MASK24 && in_block b a) ≡ true = first_of_both _ _ e in
    let drawn : nat_lt (value_of r) MASK24 ≡ true = first_of_both _ _ drawn_in in
    let within : in_block b a ≡ true = second_of_both _ _ drawn_in in
    record {
      drawn = below (value_of r) MASK24 drawn;
      within = inside within;
      reserved_for = pair_of_test xs a (value_of r) (second_of_both _ _ e);
    }
  where
    below : (n m : ℕ) → nat_lt n m ≡ true → n < m
    below n m t = grind (arith, nat_tests)

    inside : in_block b a ≡ true → InBlock b a
    inside t =
        let low : b.first ≤ a = grind (arith, nat_tests) in
        let high : a ≤ b.last = grind (arith, nat_tests) in
        (low, high)

-- over records that are kept, the reservation of a number says all of it
pub give_some : (b : Block) (xs : List Assignment) (n c a : ℕ) → IsMap xs → AllDrawn xs → ((d : ℕ) → HasAddress xs d → InBlock b d) → Has xs (c, n)
    → (c == a) ≡ may_give b xs n a
give_some b xs n c a m drawn within h = go (c == a) refl where
  go : (t : Bool) → (c == a) ≡ t → t ≡ may_give b xs n a
  go true is =
      let same : c ≡ a = grind (arith, nat_tests) in
      let here : Has xs (a, n) = subst (λ d. Has xs (d, n)) same h in
      sym (both _ _ (both _ _ (below_by n MASK24 (drawn n (has_map (λ q. q.1) xs (a, n) here)))
      (in_block_by b a (within a (has_map (λ q. q.0) xs (a, n) here)))) (test_of_pair xs a n here))
  go false is = sym (not_second _ _ (false_of_not _ (λ e.
      let same : c ≡ a = one_address xs c a n m.random_once h (pair_of_test xs a n e) in
      grind (arith, nat_tests))))

pub give_none : (b : Block) (xs : List Assignment) (n a : ℕ) → (HasRandom xs n → ⊥) → false ≡ may_give b xs n a
give_none b xs n a none = sym (not_second _ _ (false_of_not _ (λ e. none (has_map (λ q. q.1) xs (a, n) (pair_of_test xs a n e)))))

pub give_some_to : (b : Block) (xs : List Assignment) (n c : ℕ) → IsMap xs → AllDrawn xs → ((d : ℕ) → HasAddress xs d → InBlock b d) → Has xs (c, n)
    → true ≡ may_give_some b xs n
give_some_to b xs n c m drawn within h = sym (both _ _ (below_by n MASK24 (drawn n (has_map (λ q. q.1) xs (c, n) h)))
    (any_by_member (λ p. in_block b p.0 && (p.1 == n)) xs (c, n) h (both _ _ (in_block_by b c (within c (has_map (λ q. q.0) xs (c, n) h))) (self n)))) where
      self : (k : ℕ) → (k == k) ≡ true
      self k = grind (arith, nat_tests)

pub give_to_none : (b : Block) (xs : List Assignment) (n : ℕ) → (HasRandom xs n → ⊥) → false ≡ may_give_some b xs n
give_to_none b xs n none = sym (not_second _ _ (false_of_not _ (λ e. from (member_by_any (λ p. in_block b p.0 && (p.1 == n)) xs e)))) where
  from : ((p : Assignment) × Has xs p × ((in_block b p.0 && (p.1 == n)) ≡ true)) → ⊥
  from found =
      let numbered : (found.0.1 == n) ≡ true = second_of_both (in_block b found.0.0) (found.0.1 == n) found.2 in
      none (subst (λ k. Has (randoms xs) k) (same found.0.1 numbered) (has_map (λ q. q.1) xs found.0 found.1))
    where
      same : (k : ℕ) → (k == n) ≡ true → k ≡ n
      same k t = grind (arith, nat_tests)

pub goes_on_by : (b : Block) (xs : List Assignment) (n : ℕ) (o : Option ℕ) → IsMap xs → AllDrawn xs → ((d : ℕ) → HasAddress xs d → InBlock b d)
    → MatchOption o (HasRandom xs n → ⊥) (λ c. Has xs (c, n)) → is_some o ≡ may_give_some b xs n
goes_on_by b xs n None m drawn within h = give_to_none b xs n h
goes_on_by b xs n (Some c) m drawn within h = give_some_to b xs n c m drawn within h

pub may_give_some_by : (b : Block) (xs : List Assignment) (r : SearchAddress) (a : ℕ) → MayGive b xs r a → may_give_some b xs (value_of r) ≡ true
may_give_some_by b xs r a g = both _ _ (below_by (value_of r) MASK24 g.drawn)
    (any_by_member (λ p. in_block b p.0 && (p.1 == value_of r)) xs (a, value_of r) g.reserved_for (both _ _ (in_block_by b a g.within) (self (value_of r))))
  where
    self : (k : ℕ) → (k == k) ≡ true
    self k = grind (arith, nat_tests)

pub may_give_some_from : (b : Block) (xs : List Assignment) (r : SearchAddress) → may_give_some b xs (value_of r) ≡ true → (a : ℕ) × MayGive b xs r a
may_give_some_from b xs r e =
    let drawn : nat_lt (value_of r) MASK24 ≡ true = first_of_both _ _ e in
    let found = member_by_any (λ p. in_block b p.0 && (p.1 == value_of r)) xs (second_of_both _ _ e) in
    from found.0 found.1 found.2 drawn
  where
    from : (p : Assignment) → Has xs p → (in_block b p.0 && (p.1 == value_of r)) ≡ true → nat_lt (value_of r) MASK24 ≡ true → (a : ℕ) × MayGive b xs r a
    from p h t drawn =
        let numbered : (p.1 == value_of r) ≡ true = second_of_both (in_block b p.0) (p.1 == value_of r) t in
        let within : in_block b p.0 ≡ true = first_of_both (in_block b p.0) (p.1 == value_of r) t in
        let same : p.1 ≡ value_of r = equal p.1 (value_of r) numbered in
        let whole : may_give b xs (value_of r) p.0 ≡ true =
        both _ _ (both _ _ drawn within) (test_of_pair xs p.0 (value_of r) (moved xs p.0 (value_of r) p refl same h)) in
        (p.0, may_give_from b xs r p.0 whole)
      where
        equal : (m n : ℕ) → (m == n) ≡ true → m ≡ n
        equal m n e = grind (arith, nat_tests)
