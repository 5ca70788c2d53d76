-- One place of a list: what stands there, and what a write there leaves of the list's values.
use Rattle.std.proofs.Common.{◌≡◌, ◌≢◌, ℕ, ◌<◌, List, map, length, get_or, set, sym, ap, ◌∙◌, refl, ⊎_elim, subst}
use Rattle.std.proofs.lemmas.List.{get_or-map, get_or-set_same, get_or-set_other, map-set, set-get_or, length-map}
use Rattle.std.proofs.lemmas.Bool.{cases_eq}
use Rattle.std.specs.declared.option.Option.{Option}
use Rattle.std.specs.declared.option.Option.TheVariants.{None, Some}
use Rattle.std.specs.Option.{IfSome, IsSome}
use Rattle.dali_script.specs.Table.{Enrolled}
use Rattle.dali_enrol.specs.Directory.{IsOfAddress, AtItsAddress}

module _ {A X : Type 0} (f : A → X) (xs : List A) (i : ℕ) (x : A) (within : i < length xs) (here : x ≡ get_or xs i x) where
  -- what the list of values has where x stands
  pub value_at : (d : X) → get_or (map f xs) i d ≡ f x
  value_at d = get_or-map f xs i x d within ∙ ap f (sym here)

  -- a write of the same value leaves the values
  pub values_set : (y : A) → f y ≡ f x → map f (set xs i y) ≡ map f xs
  values_set y same =
      map-set f xs i y ∙ ap (set (map f xs) i) (same ∙ sym (value_at (f x))) ∙ set-get_or (map f xs) i (f x)

-- If two lists have the same values, so have two that stand at one place.
pub same_at : {A B X : Type 0} (f : A → X) (g : B → X) (xs : List A) (ys : List B) (i : ℕ) (x : A) (y : B)
    → map f xs ≡ map g ys → i < length xs → i < length ys → x ≡ get_or xs i x → y ≡ get_or ys i y → f x ≡ g y
same_at f g xs ys i x y same p q h k =
    sym (value_at f xs i x p h (f x)) ∙ ap (λ l. get_or l i (f x)) same ∙ value_at g ys i y q k (f x)

itself : {X : Type 0} (o : Option X) → IfSome o (λ e. o ≡ Some e)
itself None = tt
itself (Some e) = refl

-- What a pass knows, once y is written where x stood: was is what it knew.
module _ {A : Type 0} (known : A → Option Enrolled) (xs : List A) (i : ℕ) (x y : A) (within : i < length xs) (here : x ≡ get_or xs i x)
    (was : List (Option Enrolled)) (view : map known xs ≡ was) where
  -- what was known at the place
  pub own_at : {b : ℕ} → i ≡ b → AtItsAddress was → IsOfAddress (known x) b
  own_at at all = subst (IsOfAddress (known x)) at (subst (λ o. IsOfAddress o i) (value_at known xs i x within here None)
      (subst AtItsAddress (sym view) all i))

  -- what is known at the place after the write
  pub known_set : {b : ℕ} → i ≡ b → get_or (map known (set xs i y)) b None ≡ known y
  known_set at = subst (λ b. get_or (map known (set xs i y)) b None ≡ known y) at (ap (λ l. get_or l i None) (map-set known xs i y)
      ∙ get_or-set_same (map known xs) i (known y) None (subst (λ n. i < n) (sym (length-map xs known)) within))

  -- what is known at another place
  pub known_other : {b : ℕ} → i ≡ b → (a : ℕ) → a ≢ b → get_or (map known (set xs i y)) a None ≡ get_or was a None
  known_other at a other = ap (λ l. get_or l a None) (map-set known xs i y)
      ∙ get_or-set_other (map known xs) i a (known y) None (λ same. other (same ∙ at)) ∙ ap (λ l. get_or l a None) view

  pub own_set : {b : ℕ} → i ≡ b → AtItsAddress was → IsOfAddress (known y) b → AtItsAddress (map known (set xs i y))
  own_set {b} at all own a = ⊎_elim
      (λ (there : a ≡ b). subst (λ k. IsOfAddress (get_or (map known (set xs i y)) k None) k) (sym there)
      (subst (λ k. IsOfAddress k b) (sym (known_set at)) own))
      (λ away. subst (λ k. IsOfAddress k a) (sym (known_other at a away)) (all a))
      (cases_eq a b)

  pub kept_set : IfSome (known x) (λ e. known y ≡ Some e)
      → (a : ℕ) → IfSome (get_or was a None) (λ e. get_or (map known (set xs i y)) a None ≡ Some e)
  kept_set kept a = ⊎_elim
      (λ (there : a ≡ i). subst (λ k. IfSome (get_or was k None) (λ e. get_or (map known (set xs i y)) k None ≡ Some e)) (sym there)
      (subst (λ l. IfSome (get_or l i None) (λ e. get_or (map known (set xs i y)) i None ≡ Some e)) view
      (rw (value_at known xs i x within here None, known_set refl) kept)))
      (λ away. subst (λ k. IfSome (get_or was a None) (λ e. k ≡ Some e)) (sym (known_other refl a away)) (itself (get_or was a None)))
      (cases_eq a i)

  -- a second list, whose value at the place keeps what is known there as it was
  pub settled_set : (zs : List A) (z : A) → i < length zs → z ≡ get_or zs i z → (stood : List (Option Enrolled)) → map known zs ≡ stood
      → (IsSome (known z) → known y ≡ known x)
      → (a : ℕ) → IsSome (get_or stood a None) → get_or (map known (set xs i y)) a None ≡ get_or was a None
  settled_set zs z inside there stood seen same a some = ⊎_elim
      (λ (here_too : a ≡ i). subst (λ k. get_or (map known (set xs i y)) k None ≡ get_or was k None) (sym here_too)
      (known_set refl ∙ same (subst IsSome (ap (λ l. get_or l i None) (sym seen) ∙ value_at known zs i z inside there None)
      (subst (λ k. IsSome (get_or stood k None)) here_too some))
      ∙ sym (value_at known xs i x within here None) ∙ ap (λ l. get_or l i None) view))
      (λ away. known_other refl a away)
      (cases_eq a i)
