use Rattle.std.proofs.Common.{◌≡◌, ◌⊎◌, inl, inr, ℕ, zero, suc, ◌<◌, Bool, true, false, refl, sym, ap, subst, map, ◌∙◌, List, [], ◌∷◌, Option, Some, None, ◌==◌}
use Rattle.std.{proofs.Common.{◌&&◌, ◌||◌, not, nat_lt, slice_get, slice_set}, specs.{List.{list_any, list_all}, Prelude.unwrap_or}}
use Rattle.dali_statement.proofs.Tests.{both, first_of_both, equal, equals, below_by, some_is, holds_is, holds_by, any_at, any_by, all_at, all_by, differ_at}
use Rattle.dali_statement.{proofs.{Tests.differ_by, Moved.At, Steps.Safe, Whole.{starts, safe_after}}, specs.{Again.{ended, IsReplaced}, Page.{Gear, holds}}}
use Rattle.dali_statement.specs.Page.{Plan, Moment, start, after, differ, IsPlan, IsHistory}

-- HISTORIES BEGIN WITH RECORDS.

-- a gear that has the address has the number
for_number : (a r : ℕ) (x : Gear) → (x.short ≡ Some a → x.random ≡ r) → (not (holds a x.short) || (x.random == r)) ≡ true
for_number a r x same = go (holds a x.short) refl where
  go : (t : Bool) → holds a x.short ≡ t → (not t || (x.random == r)) ≡ true
  go true has = equals x.random r (same (holds_is a x.short has))
  go false has = refl

pub ends_as_plan : (p : Plan) (ms : List Moment) → IsHistory p ms → IsPlan (ended p ms)
ends_as_plan p ms history = record {
  shorts = differ_by (λ g. g.short) gs (λ i j n x y at there is same. safe.sound.once i j n x y at there is same);
  short = all_by (λ g. nat_lt (unwrap_or g.short 0) 64) gs (λ i x at. small x.short (λ a is. safe.sound.short i x at a is));
  reserved = λ c a r e. let within = safe.sound.within c a r e in (
    within.0,
    within.1,
    within.2,
    all_by (λ g. not (holds a g.short) || (g.random == r)) gs (λ i x at. for_number a r x (λ is. safe.sound.for_gear c a r i x e at is)),
  );
  enrolled = λ c a r e. let of = safe.sound.tables c a r e in
      any_by (λ g. holds a g.short && (g.random == r)) gs of.0 of.1 of.2 (both (holds_by a of.1.short of.3) (equals of.1.random r of.4));
} where
  gs : List Gear
  gs = (after (start p) ms).gear

  safe : Safe p (after (start p) ms)
  safe = safe_after p ms (start p) (starts p history.0) history.1

  small : (o : Option ℕ) → ((a : ℕ) → o ≡ Some a → a < 64) → nat_lt (unwrap_or o 0) 64 ≡ true
  small None few = refl
  small (Some a) few = below_by a 64 (few a refl)

-- ---------------------------------------------------------------- a gear is replaced

-- what stands in a list with one place changed: the new one there, and the others
set_at : (gs : List Gear) (g : ℕ) (y : Gear) (i : ℕ) (z : Gear) → At (slice_set gs g y) i z → ((i ≡ g) × (z ≡ y)) ⊎ ((i ≡ g → ⊥) × At gs i z)
set_at [] g y i z at = absurd (cc)
set_at (x ∷ xs) zero y zero z at = inl (refl, sym (some_is at))
set_at (x ∷ xs) (suc g) y (suc i) z at = go (set_at xs g y i z at) where
  go : ((i ≡ g) × (z ≡ y)) ⊎ ((i ≡ g → ⊥) × At xs i z) → ((suc i ≡ suc g) × (z ≡ y)) ⊎ ((suc i ≡ suc g → ⊥) × At (x ∷ xs) (suc i) z)
  go (inl new) = inl (ap suc new.0, new.1)
  go (inr old) = inr (λ e. old.0 (let same : i ≡ g = cc in same), old.1)
set_at (x ∷ xs) _ y _ z at = inr (λ e. absurd (cc), at)

set_other : (gs : List Gear) (g : ℕ) (y : Gear) (i : ℕ) (z : Gear) → (i ≡ g → ⊥) → At gs i z → At (slice_set gs g y) i z
set_other [] g y i z other at = absurd (cc)
set_other (x ∷ xs) zero y zero z other at = absurd (other refl)
set_other (x ∷ xs) (suc g) y (suc i) z other at = set_other xs g y i z (λ e. other (ap suc e)) at
set_other (x ∷ xs) _ y _ z other at = at

module _ (p q : Plan) (g a : ℕ) (x y : Gear) (plan : IsPlan p) (is : IsReplaced p g x y a q) where
  bare : {b : ℕ} (z : Gear) → z ≡ y → z.short ≡ Some b → ⊥
  bare {b} z same has = absurd (let no : None ≡ Some b = sym is.bare ∙ ap (λ k. k.short) (sym same) ∙ has in cc)

  -- who has a short address stood there before
  was : (i b : ℕ) (z : Gear) → At (slice_set p.gear g y) i z → z.short ≡ Some b → At p.gear i z
  was i b z at has = go (set_at p.gear g y i z at) where
    go : ((i ≡ g) × (z ≡ y)) ⊎ ((i ≡ g → ⊥) × At p.gear i z) → At p.gear i z
    go (inl new) = absurd (bare z new.1 has)
    go (inr old) = old.1

  pub replaced_is_plan : IsPlan q
  replaced_is_plan = record {
    shorts = subst (λ gs. differ (map (λ k. k.short) gs) ≡ true) (sym is.gear) (differ_by (λ k. k.short) (slice_set p.gear g y)
        (λ i j n u v at at_j first second. differ_at (λ k. k.short) p.gear plan.shorts i j n u v (was i n u at first) (was j n v at_j second) first second));
    short = subst (λ gs. list_all (λ k. nat_lt (unwrap_or k.short 0) 64) gs ≡ true) (sym is.gear)
        (all_by (λ k. nat_lt (unwrap_or k.short 0) 64) (slice_set p.gear g y) (λ i z at. small i z at z.short refl));
    reserved = λ c b r e. let old = plan.reserved c b r (is.records.reserved c b r e).1 in (
      ap (λ f. f b) is.block ∙ old.0,
      old.1,
      old.2,
      subst (λ gs. list_all (λ k. not (holds b k.short) || (k.random == r)) gs ≡ true) (sym is.gear)
          (all_by (λ k. not (holds b k.short) || (k.random == r)) (slice_set p.gear g y) (λ i z at. for_number b r z
          (λ has. numbered b r z has (all_at (λ k. not (holds b k.short) || (k.random == r)) p.gear i z old.3 (was i b z at has))))),
    );
    enrolled = λ c b r e. let old = is.records.enrolled c b r e in
        subst (λ gs. list_any (λ k. holds b k.short && (k.random == r)) gs ≡ true) (sym is.gear)
        (tabled b r old.0 (any_at (λ k. holds b k.short && (k.random == r)) p.gear (plan.enrolled old.1 b r old.2)));
  } where
    small : (i : ℕ) (z : Gear) → At (slice_set p.gear g y) i z → (o : Option ℕ) → z.short ≡ o → nat_lt (unwrap_or o 0) 64 ≡ true
    small i z at None has = refl
    small i z at (Some b) has =
        ap (λ o. nat_lt (unwrap_or o 0) 64) (sym has) ∙ all_at (λ k. nat_lt (unwrap_or k.short 0) 64) p.gear i z plan.short (was i b z at has)

    numbered : (b r : ℕ) (z : Gear) → z.short ≡ Some b → (not (holds b z.short) || (z.random == r)) ≡ true → z.random ≡ r
    numbered b r z has e = equal z.random r (ap (λ t. not t || (z.random == r)) (sym (holds_by b z.short has)) ∙ e)

    tabled : (b r : ℕ) → (b ≡ a → ⊥) → (i : ℕ) × (z : Gear) × At p.gear i z × ((holds b z.short && (z.random == r)) ≡ true)
        → list_any (λ k. holds b k.short && (k.random == r)) (slice_set p.gear g y) ≡ true
    tabled b r other (i, z, at, e) =
        any_by (λ k. holds b k.short && (k.random == r)) (slice_set p.gear g y) i z (set_other p.gear g y i z elsewhere at) e where
          elsewhere : i ≡ g → ⊥
          elsewhere same =
              let one : z ≡ x = some_is (sym at ∙ ap (slice_get p.gear) same ∙ is.there) in
              other (some_is (sym (holds_is b z.short (first_of_both _ _ e)) ∙ ap (λ k. k.short) one ∙ is.had))
