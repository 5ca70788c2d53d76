use Rattle.std.proofs.Common.{◌≡◌, ◌⊎◌, inl, inr, ℕ, zero, suc, ◌<◌, Bool, true, false, refl, sym, ap, subst, map, ◌∙◌, List, [], ◌∷◌, Option, Some, None, ◌==◌}
use Rattle.std.{proofs.Common.{◌&&◌, ◌||◌, not, nat_lt, slice_get, slice_set}, specs.{List.{list_any, list_all}, Prelude.unwrap_or}}
use Rattle.dali_statement.proofs.Tests.{both, first_of_both, equal, equals, some_is, holds_is, holds_by, any_at, any_by, all_at, all_by, differ_at}
use Rattle.dali_statement.{proofs.Tests.differ_by, specs.Page.{Gear, Plan, IsPlan, differ, holds}}
use Rattle.dali_commission_program.specs.Accepted.{IsAccepted}

-- A GEAR WAS ACCEPTED: what is there then is a plan of the page.

-- a gear that has the address has the number
for_number : (a r : ℕ) (x : Gear) → (x.short ≡ Some a → x.random ≡ r) → (not (holds a x.short) || (x.random == r)) ≡ true
for_number a r x same = go (holds a x.short) refl where
  go : (t : Bool) → holds a x.short ≡ t → (not t || (x.random == r)) ≡ true
  go true has = equals x.random r (same (holds_is a x.short has))
  go false has = refl

-- what stands in a list with one place changed: the new one there, and the others
set_at : (gs : List Gear) (g : ℕ) (y : Gear) (i : ℕ) (z : Gear) → slice_get (slice_set gs g y) i ≡ Some z
    → ((i ≡ g) × (z ≡ y)) ⊎ ((i ≡ g → ⊥) × (slice_get gs i ≡ Some z))
set_at [] g y i z at = absurd (cc)
set_at (x ∷ xs) zero y zero z at = inl (refl, sym (some_is at))
set_at (x ∷ xs) (suc g) y (suc i) z at = go (set_at xs g y i z at) where
  go : ((i ≡ g) × (z ≡ y)) ⊎ ((i ≡ g → ⊥) × (slice_get xs i ≡ Some z))
      → ((suc i ≡ suc g) × (z ≡ y)) ⊎ ((suc i ≡ suc g → ⊥) × (slice_get (x ∷ xs) (suc i) ≡ Some z))
  go (inl new) = inl (ap suc new.0, new.1)
  go (inr old) = inr (λ e. old.0 (let same : i ≡ g = cc in same), old.1)
set_at (x ∷ xs) _ y _ z at = inr (λ e. absurd (cc), at)

set_other : (gs : List Gear) (g : ℕ) (y : Gear) (i : ℕ) (z : Gear) → (i ≡ g → ⊥) → slice_get gs i ≡ Some z → slice_get (slice_set gs g y) i ≡ Some z
set_other [] g y i z other at = absurd (cc)
set_other (x ∷ xs) zero y zero z other at = absurd (other refl)
set_other (x ∷ xs) (suc g) y (suc i) z other at = set_other xs g y i z (λ e. other (ap suc e)) at
set_other (x ∷ xs) _ y _ z other at = at

set_here : (gs : List Gear) (g : ℕ) (x y : Gear) → slice_get gs g ≡ Some x → slice_get (slice_set gs g y) g ≡ Some y
set_here [] g x y at = absurd (cc)
set_here (w ∷ ws) zero x y at = refl
set_here (w ∷ ws) (suc g) x y at = set_here ws g x y at

module _ (p q : Plan) (g a : ℕ) (x y : Gear) (plan : IsPlan p) (is : IsAccepted p g a x y q) where
  one_short : (b : ℕ) (z : Gear) → z ≡ y → z.short ≡ Some b → b ≡ a
  one_short b z same has = some_is (sym has ∙ ap (λ k. k.short) same ∙ is.has)

  -- who has a short address: one had it there before
  had : (i b : ℕ) (z : Gear) → slice_get (slice_set p.gear g y) i ≡ Some z → z.short ≡ Some b
      → (w : Gear) × (slice_get p.gear i ≡ Some w) × (w.short ≡ Some b)
  had i b z at has = go (set_at p.gear g y i z at) where
    go : ((i ≡ g) × (z ≡ y)) ⊎ ((i ≡ g → ⊥) × (slice_get p.gear i ≡ Some z)) → (w : Gear) × (slice_get p.gear i ≡ Some w) × (w.short ≡ Some b)
    go (inl new) = (x, ap (slice_get p.gear) new.0 ∙ is.there, is.had ∙ ap Some (sym (one_short b z new.1 has)))
    go (inr old) = (z, old.1, has)

  -- and it is the same one, at another address than that of the new gear
  was : (i b : ℕ) (z : Gear) → slice_get (slice_set p.gear g y) i ≡ Some z → z.short ≡ Some b → (b ≡ a → ⊥) → slice_get p.gear i ≡ Some z
  was i b z at has other = go (set_at p.gear g y i z at) where
    go : ((i ≡ g) × (z ≡ y)) ⊎ ((i ≡ g → ⊥) × (slice_get p.gear i ≡ Some z)) → slice_get p.gear i ≡ Some z
    go (inl new) = absurd (other (one_short b z new.1 has))
    go (inr old) = old.1

  pub accepted_is_plan : IsPlan q
  accepted_is_plan = record {
    shorts = subst (λ gs. differ (map (λ k. k.short) gs) ≡ true) (sym is.gear) (differ_by (λ k. k.short) (slice_set p.gear g y)
        (λ i j n u v at at_j first second. let one = had i n u at first in let other = had j n v at_j second in
        differ_at (λ k. k.short) p.gear plan.shorts i j n one.0 other.0 one.1 other.1 one.2 other.2));
    short = subst (λ gs. list_all (λ k. nat_lt (unwrap_or k.short 0) 64) gs ≡ true) (sym is.gear)
        (all_by (λ k. nat_lt (unwrap_or k.short 0) 64) (slice_set p.gear g y) (λ i z at. small i z at z.short refl));
    reserved = λ c b r e. let now = is.reserved c b r e in let old = plan.reserved c b r now.1 in (
      ap (λ f. f b) is.block ∙ old.0,
      old.1,
      old.2,
      subst (λ gs. list_all (λ k. not (holds b k.short) || (k.random == r)) gs ≡ true) (sym is.gear)
          (all_by (λ k. not (holds b k.short) || (k.random == r)) (slice_set p.gear g y) (λ i z at. for_number b r z
          (λ has. numbered b r z has (all_at (λ k. not (holds b k.short) || (k.random == r)) p.gear i z old.3 (was i b z at has now.0))))),
    );
    enrolled = λ c b r e. subst (λ gs. list_any (λ k. holds b k.short && (k.random == r)) gs ≡ true) (sym is.gear) (tabled b r (is.enrolled c b r e));
  } where
    small : (i : ℕ) (z : Gear) → slice_get (slice_set p.gear g y) i ≡ Some z → (o : Option ℕ) → z.short ≡ o → nat_lt (unwrap_or o 0) 64 ≡ true
    small i z at None has = refl
    small i z at (Some b) has =
        let before = had i b z at has in
        ap (λ o. nat_lt (unwrap_or o 0) 64) (sym before.2) ∙ all_at (λ k. nat_lt (unwrap_or k.short 0) 64) p.gear i before.0 plan.short before.1

    numbered : (b r : ℕ) (z : Gear) → z.short ≡ Some b → (not (holds b z.short) || (z.random == r)) ≡ true → z.random ≡ r
    numbered b r z has e = equal z.random r (ap (λ t. not t || (z.random == r)) (sym (holds_by b z.short has)) ∙ e)

    carried : (b r : ℕ) → (b ≡ a → ⊥) → (i : ℕ) × (z : Gear) × (slice_get p.gear i ≡ Some z) × ((holds b z.short && (z.random == r)) ≡ true)
        → list_any (λ k. holds b k.short && (k.random == r)) (slice_set p.gear g y) ≡ true
    carried b r other (i, z, at, e) =
        any_by (λ k. holds b k.short && (k.random == r)) (slice_set p.gear g y) i z (set_other p.gear g y i z elsewhere at) e where
          elsewhere : i ≡ g → ⊥
          elsewhere same =
              let one : z ≡ x = some_is (sym at ∙ ap (slice_get p.gear) same ∙ is.there) in
              other (some_is (sym (holds_is b z.short (first_of_both _ _ e)) ∙ ap (λ k. k.short) one ∙ is.had))

    tabled : (b r : ℕ) → ((b ≡ a) × (r ≡ y.random)) ⊎ ((b ≡ a → ⊥) × ((d : ℕ) × (p.enrolled d b r ≡ true)))
        → list_any (λ k. holds b k.short && (k.random == r)) (slice_set p.gear g y) ≡ true
    tabled b r (inl (at, number)) =
        any_by (λ k. holds b k.short && (k.random == r)) (slice_set p.gear g y) g y (set_here p.gear g x y is.there)
        (both (holds_by b y.short (is.has ∙ ap Some (sym at))) (equals y.random r (sym number)))
    tabled b r (inr (other, (d, e))) = carried b r other (any_at (λ k. holds b k.short && (k.random == r)) p.gear (plan.enrolled d b r e))
