use Rattle.std.proofs.Common.{◌≡◌, ◌≤◌, arith, ℕ, ◌+◌, suc, List, [], ◌++◌, length, length-append, Option, None, Some, refl, subst, ◌∙◌, ap, sym}
use Rattle.dali_script.specs.Records.{Assignment}
use Rattle.dali_commissioning.specs.Places.{random_at}
use Rattle.dali_commission_said.specs.Tables.{at_if, rows_below}

-- no short address, and one more
pub none : (xs : List Assignment) → rows_below 0 xs ≡ []
unfolding rows_below
none xs = refl

after : (n : ℕ) (xs : List Assignment) → rows_below (suc n) xs ≡ rows_below n xs ++ at_if n (random_at xs n)
unfolding rows_below
after n xs = refl

pub one_more : (n : ℕ) (xs : List Assignment) → rows_below (n + 1) xs ≡ rows_below n xs ++ at_if n (random_at xs n)
one_more n xs =
    let is : suc n ≡ n + 1 = omega arith in
    subst (λ m. rows_below m xs ≡ rows_below n xs ++ at_if n (random_at xs n)) is (after n xs)

pub next : (items more : List Assignment) (n short : ℕ) (random : Option ℕ) (xs ys : List Assignment)
    → items ≡ rows_below n xs → ys ≡ xs → short ≡ n → random ≡ random_at ys short
    → more ≡ items ++ at_if short random → more ≡ rows_below (n + 1) xs
next items more n short random xs ys so_far same is found added =
    added ∙ ap (λ z. z ++ at_if short random) so_far
    ∙ ap (λ r. rows_below n xs ++ at_if short r) (found ∙ ap (λ l. random_at l short) same)
    ∙ ap (λ a. rows_below n xs ++ at_if a (random_at xs a)) is ∙ sym (one_more n xs)

one_at_most : (a : ℕ) (r : Option ℕ) → length (at_if a r) ≤ 1
one_at_most a None = omega arith
one_at_most a (Some r) = omega arith

pub few_more : (items more : List Assignment) (n a : ℕ) (r : Option ℕ) → length items ≤ n
    → more ≡ items ++ at_if a r → length more ≤ n + 1
few_more items more n a r few added =
    let sum : length more ≡ length items + length (at_if a r) = ap length added ∙ length-append items (at_if a r) in
    let one : length (at_if a r) ≤ 1 = one_at_most a r in
    omega (arith, sum, one, few)
