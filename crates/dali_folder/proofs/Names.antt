use Rattle.std.proofs.Common.{arith, ◌≡◌, ◌≢◌, ◌⊎◌, inl, inr, refl, sym, ◌∙◌, ap, ℕ, List, [], ◌∷◌, ◌++◌, false, Option, Some, None}
use Rattle.std.specs.Prelude.{bytes_eq, ◌==◌, ◌||◌, if◌then◌else◌}
use Rattle.std.proofs.lemmas.Bool.{cases_Bool, cond-true, cond-false}
use Rattle.std.proofs.lemmas.Slice.Eq.{bytes_eq-Decides}
use Rattle.dali_folder.specs.Folder.{Names, put, moving, has_slash, folder_of}

pub decided : (a b : List ℕ) → (a ≡ b) ⊎ (a ≢ b)
decided a b = elim (cases_Bool (bytes_eq a b)) [
  | inl is ↦ inl ((bytes_eq-Decides a b).0 is)
  | inr not ↦ inr (λ e. let is = (bytes_eq-Decides a b).1 e in grind (arith, is, not))
]

pub put_here : {X : Type 0} (name : List ℕ) (it : X) (names : List ℕ → X) → put name it names name ≡ it
put_here name it names = cond-true (bytes_eq name name) it (names name) ((bytes_eq-Decides name name).1 refl)

pub not_same : (a b : List ℕ) → a ≢ b → bytes_eq a b ≡ false
not_same a b differs = elim (cases_Bool (bytes_eq a b)) [ inl is ↦ absurd (differs ((bytes_eq-Decides a b).0 is)) | inr not ↦ not ]

pub put_other : {X : Type 0} (name : List ℕ) (it : X) (names : List ℕ → X) (other : List ℕ) → other ≢ name → put name it names other ≡ names other
put_other name it names other differs = cond-false (bytes_eq other name) it (names other) (not_same other name differs)

pub put_is : {X : Type 0} (name : List ℕ) (it : X) (names : List ℕ → X) (other : List ℕ) (is : X) → (other ≡ name → it ≡ is)
    → (other ≢ name → names other ≡ is) → put name it names other ≡ is
put_is name it names other is here there = elim (decided other name) [
  | inl same ↦ ap (λ o. put name it names o) same ∙ put_here name it names ∙ here same
  | inr differs ↦ put_other name it names other differs ∙ there differs
]

pub put_both : {X : Type 0} (name : List ℕ) (it : X) (f g : List ℕ → X) (other : List ℕ) → (other ≢ name → f other ≡ g other)
    → put name it f other ≡ put name it g other
put_both name it f g other same = put_is name it f other (put name it g other)
    (λ is. sym (ap (λ o. put name it g o) is ∙ put_here name it g))
    (λ differs. same differs ∙ sym (put_other name it g other differs))

pub moving_both : (o : Option (List ℕ)) (from to : List ℕ) (f g : Names) (other : List ℕ) → f other ≡ g other
    → moving o from to f other ≡ moving o from to g other
moving_both None from to f g other same = same
moving_both (Some file) from to f g other same =
    put_both to (Some file) (put from None f) (put from None g) other (λ _. put_both from None f g other (λ _. same))

-- the folder of a name with an end behind it
ends : (name end : List ℕ) → has_slash end ≡ false → has_slash (name ++ end) ≡ has_slash name
ends [] end none = none
ends (c ∷ more) end none = ap (λ b. (c == 47) || b) (ends more end none)

none_in : (end : List ℕ) → has_slash end ≡ false → folder_of end ≡ []
none_in [] none = refl
none_in (c ∷ more) none = cond-false (has_slash (c ∷ more)) (c ∷ folder_of more) [] none

pub beside : (name end : List ℕ) → has_slash end ≡ false → folder_of (name ++ end) ≡ folder_of name
beside [] end none = none_in end none
beside (c ∷ more) end none =
    ap (λ b. if b then c ∷ folder_of (more ++ end) else []) (ends (c ∷ more) end none)
    ∙ ap (λ f. if has_slash (c ∷ more) then c ∷ f else []) (beside more end none)
