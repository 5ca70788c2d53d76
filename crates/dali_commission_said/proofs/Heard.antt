use Rattle.std.proofs.Common.{◌≡◌, ◌≤◌, arith, ℕ, ◌+◌, suc, List, [], ◌++◌, length, length-append, Bool, true, false, refl, subst, ◌∙◌, ap, sym}
use Rattle.dali_controller.specs.{Shorts.has_short, declared.shorts.Shorts.Shorts}
use Rattle.dali_commission_said.specs.Reports.{heard_if, heard_below}

-- no short address, and one more
pub none : (heard : Shorts) → heard_below 0 heard ≡ []
unfolding heard_below
none heard = refl

after : (n : ℕ) (heard : Shorts) → heard_below (suc n) heard ≡ heard_below n heard ++ heard_if n (has_short heard n)
unfolding heard_below
after n heard = refl

pub one_more : (n : ℕ) (heard : Shorts) → heard_below (n + 1) heard ≡ heard_below n heard ++ heard_if n (has_short heard n)
one_more n heard =
    let is : suc n ≡ n + 1 = omega arith in
    subst (λ m. heard_below m heard ≡ heard_below n heard ++ heard_if n (has_short heard n)) is (after n heard)

one_at_most : (a : ℕ) (is : Bool) → length (heard_if a is) ≤ 1
one_at_most a true = omega arith
one_at_most a false = omega arith

pub few_more : (items more : List ℕ) (n a : ℕ) (is : Bool) → length items ≤ n
    → more ≡ items ++ heard_if a is → length more ≤ n + 1
few_more items more n a is few added =
    let sum : length more ≡ length items + length (heard_if a is) = ap length added ∙ length-append items (heard_if a is) in
    let one : length (heard_if a is) ≤ 1 = one_at_most a is in
    omega (arith, sum, one, few)

pub next : (items more : List ℕ) (n : ℕ) (is : Bool) (heard : Shorts) → items ≡ heard_below n heard → is ≡ has_short heard n
    → more ≡ items ++ heard_if n is → more ≡ heard_below (n + 1) heard
next items more n is heard so_far told added =
    added ∙ ap (λ z. z ++ heard_if n is) so_far
    ∙ ap (λ b. heard_below n heard ++ heard_if n b) told ∙ sym (one_more n heard)
