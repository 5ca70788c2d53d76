use Rattle.std.proofs.Common.{◌≡◌, sym, subst, refl, inl, inr, ℕ, nat_eq, arith, Bool, true, false, List, [], ◌∷◌, ◌↔◌, IsTrue}
use Rattle.std.specs.Prelude.{not, ◌||◌}
use Rattle.std.specs.List.{list_any}
use Rattle.dali_script.specs.Records.{Has}
use Rattle.dali_replacement.specs.Swapping.{IsWithout}

there : (xs : List ℕ) → list_any (λ y. nat_eq y 10) xs ≡ true → Has xs 10
there [] is = absurd (cc)
there (x ∷ xs) is = go (nat_eq x 10) refl (λ more. there xs more) is
  where
    go : (b : Bool) → nat_eq x 10 ≡ b → (list_any (λ y. nat_eq y 10) xs ≡ true → Has xs 10) → (b || list_any (λ y. nat_eq y 10) xs) ≡ true → Has (x ∷ xs) 10
    go true here rest is = inl (grind (arith, here))
    go false here rest is = inr (rest is)

back : (xs : List ℕ) → Has xs 10 → list_any (λ y. nat_eq y 10) xs ≡ true
back [] has = absurd has
back (x ∷ xs) (inl is) = subst (λ (n : ℕ). (nat_eq n 10 || list_any (λ y. nat_eq y 10) xs) ≡ true) (sym is) refl
back (x ∷ xs) (inr has) = go (nat_eq x 10) (back xs has)
  where
    go : (b : Bool) → list_any (λ y. nat_eq y 10) xs ≡ true → (b || list_any (λ y. nat_eq y 10) xs) ≡ true
    go true rest = refl
    go false rest = rest

-- a name with no byte that ends a line
pub line : (name bytes : List ℕ) (b : Bool) → bytes ≡ name → b ≡ list_any (λ y. nat_eq y 10) bytes → IsTrue (not b) ↔ IsWithout 10 name
line name bytes true same is =
    ((λ so. absurd (grind (arith, so))), (λ none. absurd (none (subst (λ (xs : List ℕ). Has xs 10) same (there bytes (sym is))))))
line name bytes false same is =
    ((λ so has. let found = back name has in absurd (grind (arith, is, same, found))), (λ none. grind arith))
