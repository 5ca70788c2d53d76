use Rattle.std.proofs.Common.{◌≡◌, ℕ, List, [], ◌∷◌, map, Option, Some, None, option_map, refl, ap, ◌∙◌}
use Rattle.std.specs.Borrow.{Bor}
use Rattle.std.specs.Option.{option_map_or}

named : (name : List ℕ) (vs : List (Bor (List ℕ)))
    → map {B = List ℕ × List ℕ} (λ v. (name, v.now)) vs ≡ map {B = List ℕ × List ℕ} (λ x. (name, x)) (map (λ v. v.now) vs)
named name [] = refl
named name (v ∷ vs) = ap (λ ps. (name, v.now) ∷ ps) (named name vs)

-- Values that were found of a word, each with its name.
pub found_named : {A : Type 0} (raw : A → List (List ℕ)) (found : Option A) (name : List ℕ) (vs : List (Bor (List ℕ)))
    → Some (map (λ v. v.now) vs) ≡ option_map raw found
    → map {B = List ℕ × List ℕ} (λ v. (name, v.now)) vs ≡ option_map_or (λ a. map {B = List ℕ × List ℕ} (λ x. (name, x)) (raw a)) found []
found_named raw None name vs is = absurd (cc)
found_named raw (Some a) name vs is = let same : map (λ v. v.now) vs ≡ raw a = cc in named name vs ∙ ap (map {B = List ℕ × List ℕ} (λ x. (name, x))) same
