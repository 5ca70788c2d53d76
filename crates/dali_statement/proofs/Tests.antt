use Rattle.std.proofs.Common.{◌≡◌, ◌⊎◌, inl, inr, ℕ, ◌<◌, zero, suc, Bool, true, false, refl, sym, ap, subst, ◌∙◌, arith, List, [], ◌∷◌, map, Option, Some}
use Rattle.std.proofs.{Common.{length, get_or, ◌≤◌, None, ◌==◌, ◌&&◌, ◌||◌, not, nat_lt, slice_get, nat_le}, lemmas.Bool.Decides.nat_tests}
use Rattle.std.specs.List.{list_any, list_all}
use Rattle.dali_statement.specs.Page.{same, holds, differ}

-- WHAT TESTS SAY.

pub first_of_both : (a b : Bool) → (a && b) ≡ true → a ≡ true
first_of_both true b e = refl
first_of_both false b e = e

pub second_of_both : (a b : Bool) → (a && b) ≡ true → b ≡ true
second_of_both true b e = e
second_of_both false b e = absurd (cc)

pub both : {a b : Bool} → a ≡ true → b ≡ true → (a && b) ≡ true
both {a} {b} first second = rw (first, second) refl

pub either : (a b : Bool) → (a || b) ≡ true → (a ≡ true) ⊎ (b ≡ true)
either true b e = inl refl
either false b e = inr e

pub first_of_either : (a b : Bool) → a ≡ true → (a || b) ≡ true
first_of_either true b e = refl
first_of_either false b e = absurd (cc)

pub second_of_either : {b : Bool} (a : Bool) → b ≡ true → (a || b) ≡ true
second_of_either {b} true e = refl
second_of_either {b} false e = e

pub not_true : (a : Bool) → not a ≡ true → a ≡ true → ⊥
not_true true e is = absurd (cc)
not_true false e is = absurd (cc)

pub equal : (m n : ℕ) → (m == n) ≡ true → m ≡ n
equal m n e = grind (arith, nat_tests)

pub equals : (m n : ℕ) → m ≡ n → (m == n) ≡ true
equals m n e = grind (arith, nat_tests)

pub below : (m n : ℕ) → nat_lt m n ≡ true → m < n
below m n e = grind (arith, nat_tests)

pub some_is : {A : Type 0} {a b : A} → Some a ≡ Some b → a ≡ b
some_is {A} {a} {b} e = cc

pub holds_is : (n : ℕ) (o : Option ℕ) → holds n o ≡ true → o ≡ Some n
holds_is n None e = absurd (cc)
holds_is n (Some m) e = ap (λ k. Some k) (equal m n e)

pub holds_by : (n : ℕ) (o : Option ℕ) → o ≡ Some n → holds n o ≡ true
holds_by n None e = absurd (cc)
holds_by n (Some m) e = equals m n (some_is e)

pub any_at : {A : Type 0} (test : A → Bool) (xs : List A) → list_any test xs ≡ true → (i : ℕ) × (x : A) × (slice_get xs i ≡ Some x) × (test x ≡ true)
any_at {A} test [] e = absurd (cc)
any_at {A} test (y ∷ ys) e = go (either (test y) (list_any test ys) e) (any_at test ys) where
  go : (test y ≡ true) ⊎ (list_any test ys ≡ true)
      → (list_any test ys ≡ true → (i : ℕ) × (x : A) × (slice_get ys i ≡ Some x) × (test x ≡ true))
      → (i : ℕ) × (x : A) × (slice_get (y ∷ ys) i ≡ Some x) × (test x ≡ true)
  go (inl here) later = (zero, y, refl, here)
  go (inr more) later = let found = later more in (suc found.0, found.1, found.2, found.3)

pub any_by : {A : Type 0} (test : A → Bool) (xs : List A) (i : ℕ) (x : A) → slice_get xs i ≡ Some x → test x ≡ true → list_any test xs ≡ true
any_by {A} test [] i x at e = absurd (cc)
any_by {A} test (y ∷ ys) zero x at e = first_of_either (test y) (list_any test ys) (ap test (some_is at) ∙ e)
any_by {A} test (y ∷ ys) (suc i) x at e = go (test y) (any_by test ys i x at e) where
  go : (b : Bool) → list_any test ys ≡ true → (b || list_any test ys) ≡ true
  go true is = refl
  go false is = is

pub all_at : {A : Type 0} (test : A → Bool) (xs : List A) (i : ℕ) (x : A) → list_all test xs ≡ true → slice_get xs i ≡ Some x → test x ≡ true
all_at {A} test [] i x e at = absurd (cc)
all_at {A} test (y ∷ ys) zero x e at = ap test (sym (some_is at)) ∙ first_of_both (test y) (list_all test ys) e
all_at {A} test (y ∷ ys) (suc i) x e at = all_at test ys i x (second_of_both (test y) (list_all test ys) e) at

-- a number that stands in a list by places
mapped : {A : Type 0} (key : A → Option ℕ) (xs : List A) (i n : ℕ) (x : A) → slice_get xs i ≡ Some x → key x ≡ Some n → list_any (holds n) (map key xs) ≡ true
mapped {A} key [] i n x at e = absurd (cc)
mapped {A} key (y ∷ ys) zero n x at e = first_of_either (holds n (key y)) _ (holds_by n (key y) (ap key (some_is at) ∙ e))
mapped {A} key (y ∷ ys) (suc i) n x at e = go (holds n (key y)) (mapped key ys i n x at e) where
  go : (b : Bool) → list_any (holds n) (map key ys) ≡ true → (b || list_any (holds n) (map key ys)) ≡ true
  go true is = refl
  go false is = is

-- in a list in which no number stands twice, two places of one number are one place
pub differ_at : {A : Type 0} (key : A → Option ℕ) (xs : List A) → differ (map key xs) ≡ true → (i j n : ℕ) (x y : A)
    → slice_get xs i ≡ Some x → slice_get xs j ≡ Some y → key x ≡ Some n → key y ≡ Some n → i ≡ j
differ_at {A} key [] e i j n x y at there is same = absurd (cc)
differ_at {A} key (z ∷ zs) e i j n x y at there is same = go (λ d k l first second. differ_at key zs d k l n x y first second is same) e i j at there where
  -- the number of the first one stands in the rest, which cannot be
  twice : (k : ℕ) (v : A) → slice_get zs k ≡ Some v → key v ≡ Some n → (o : Option ℕ) → o ≡ Some n → differ (o ∷ map key zs) ≡ true → ⊥
  twice k v at_v is_v None o_is d = absurd (cc)
  twice k v at_v is_v (Some m) o_is d =
      not_true (list_any (holds m) (map key zs)) (first_of_both _ _ d)
      (subst (λ q. list_any (holds q) (map key zs) ≡ true) (sym (some_is o_is)) (mapped key zs k n v at_v is_v))

  rest : (o : Option ℕ) → differ (o ∷ map key zs) ≡ true → differ (map key zs) ≡ true
  rest None d = d
  rest (Some m) d = second_of_both _ _ d

  go : (differ (map key zs) ≡ true → (k l : ℕ) → slice_get zs k ≡ Some x → slice_get zs l ≡ Some y → k ≡ l)
      → differ (key z ∷ map key zs) ≡ true → (i j : ℕ) → slice_get (z ∷ zs) i ≡ Some x → slice_get (z ∷ zs) j ≡ Some y → i ≡ j
  go later d zero zero at there = refl
  go later d zero (suc j) at there = absurd (twice j y there same (key z) (ap key (some_is at) ∙ is) d)
  go later d (suc i) zero at there = absurd (twice i x at is (key z) (ap key (some_is there) ∙ same) d)
  go later d (suc i) (suc j) at there = ap suc (later (rest (key z) d) i j at there)

pub mapped_at : {A B : Type 0} (f : A → B) (xs : List A) (i : ℕ) (y : B) → slice_get (map f xs) i ≡ Some y → (x : A) × (slice_get xs i ≡ Some x) × (y ≡ f x)
mapped_at {A} {B} f [] i y at = absurd (cc)
mapped_at {A} {B} f (x ∷ xs) zero y at = (x, refl, sym (some_is at))
mapped_at {A} {B} f (x ∷ xs) (suc i) y at = mapped_at f xs i y at

-- a list in which no number stands at two places
pub differ_by : {A : Type 0} (key : A → Option ℕ) (xs : List A)
    → ((i j n : ℕ) (x y : A) → slice_get xs i ≡ Some x → slice_get xs j ≡ Some y → key x ≡ Some n → key y ≡ Some n → i ≡ j) → differ (map key xs) ≡ true
differ_by {A} key [] one = refl
differ_by {A} key (z ∷ zs) one =
    go (key z) refl (differ_by key zs (λ i j n x y at there is same. shorter i j (one (suc i) (suc j) n x y at there is same))) where
      shorter : (i j : ℕ) → suc i ≡ suc j → i ≡ j
      shorter i j e = omega arith

      apart : (i : ℕ) → zero ≡ suc i → ⊥
      apart i e = omega arith

      alone : (m : ℕ) (t : Bool) → key z ≡ Some m → list_any (holds m) (map key zs) ≡ t → not t ≡ true
      alone m false is e = refl
      alone m true is e =
          let at = any_at (holds m) (map key zs) e in
          let from = mapped_at key zs at.0 at.1 at.2 in
          absurd (apart at.0 (one zero (suc at.0) m z from.0 refl from.1 is (sym from.2 ∙ holds_is m at.1 at.3)))

      go : (o : Option ℕ) → key z ≡ o → differ (map key zs) ≡ true → differ (o ∷ map key zs) ≡ true
      go None is rest = rest
      go (Some m) is rest = both (alone m (list_any (holds m) (map key zs)) is refl) rest

pub all_by : {A : Type 0} (test : A → Bool) (xs : List A) → ((i : ℕ) (x : A) → slice_get xs i ≡ Some x → test x ≡ true) → list_all test xs ≡ true
all_by {A} test [] each = refl
all_by {A} test (x ∷ xs) each = both (each zero x refl) (all_by test xs (λ i y at. each (suc i) y at))

pub below_by : (m n : ℕ) → m < n → nat_lt m n ≡ true
below_by m n e = grind (arith, nat_tests)

pub within_by : (m n : ℕ) → m ≤ n → nat_le m n ≡ true
within_by m n e = grind (arith, nat_tests)

pub within_is : (m n : ℕ) → nat_le m n ≡ true → m ≤ n
within_is m n e = grind (arith, nat_tests)

-- a place of a list, in the words of the crates below
pub at_index : {A : Type 0} (xs : List A) (i : ℕ) (x d : A) → slice_get xs i ≡ Some x → (i < length xs) × (get_or xs i d ≡ x)
at_index {A} [] i x d at = absurd (cc)
at_index {A} (y ∷ ys) zero x d at = (omega arith, some_is at)
at_index {A} (y ∷ ys) (suc i) x d at = let more = at_index ys i x d at in (let small : i < length ys = more.0 in omega arith, more.1)

pub placed : {A B : Type 0} (f : A → B) (d : A) (xs : List A) (i : ℕ) → i < length xs → slice_get (map f xs) i ≡ Some (f (get_or xs i d))
placed {A} {B} f d [] i h = absurd (omega arith)
placed {A} {B} f d (x ∷ xs) zero h = refl
placed {A} {B} f d (x ∷ xs) (suc i) h = placed f d xs i (let there : suc i < length (x ∷ xs) = h in omega arith)
