-- A value that is put at a number.
use Rattle.std.proofs.Common.{◌≡◌, ℕ, zero, suc, ◌+◌, ◌<◌, List, [], ◌∷◌, ◌++◌, length, slice_set, refl, sym, ap, ◌∙◌, add-one}
use Rattle.std.specs.declared.option.Option.TheVariants.{None}
use native.Mathlib.Nat.{not-suc-le-zero, le_of_suc-le-suc}
use Rattle.dali_ring.{specs.Block.put_at, specs.Fresh.fresh_to, proofs.Begins.fresh_length}

-- in place of one that is there
in_place : {X : Type 0} (xs : List X) (i : ℕ) (x : X) → i < length xs → put_at i x xs ≡ slice_set xs i x
in_place [] i x inside = absurd (not-suc-le-zero inside)
in_place (y ∷ ys) zero x inside = refl
in_place (y ∷ ys) (suc i) x inside = ap (λ l. y ∷ l) (in_place ys i x (le_of_suc-le-suc inside))

pub put_inside : {X : Type 0} (xs ys : List X) (i : ℕ) (x : X) → xs ≡ ys → i < length ys → put_at i x xs ≡ slice_set ys i x
put_inside xs ys i x same inside = ap (put_at i x) same ∙ in_place ys i x inside

-- behind the last
put_behind : {X : Type 0} (xs : List X) (x : X) → put_at (length xs) x xs ≡ xs ++ x ∷ []
put_behind [] x = refl
put_behind (y ∷ ys) x = ap (λ l. y ∷ l) (put_behind ys x)

module _ (X : Type 0) where
  pub as_long : (xs : List _) (n : ℕ) → xs ≡ fresh_to {X = X} n → length xs ≡ n
  as_long xs n same = ap length same ∙ fresh_length X n

  pub one_more : (xs : List _) (n : ℕ) → xs ≡ fresh_to {X = X} n → put_at n (record { link = n + 1; item = None }) xs ≡ fresh_to {X = X} (n + 1)
  one_more xs n same =
      ap (λ k. put_at k (record { link = n + 1; item = None }) xs) (sym (as_long xs n same)) ∙ put_behind xs (record { link = n + 1; item = None })
      ∙ ap (λ l. l ++ record { link = n + 1; item = None } ∷ []) same ∙ ap (fresh_to {X = X}) (sym (add-one n))
