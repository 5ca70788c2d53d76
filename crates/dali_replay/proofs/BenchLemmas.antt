use Rattle.std.proofs.Common.{ℕ, zero, suc, ◌<◌, inl, inr, List, [], ◌∷◌, length, get_or, take, drop, refl, arith}
use Rattle.dali_frame.specs.Random.{MASK24}
use Rattle.dali_script.specs.Records.{Has}

has_take : (n : ℕ) (xs : List ℕ) (r : ℕ) → Has (take n xs) r → Has xs r
has_take zero [] r has = has
has_take zero (x ∷ xs) r has = absurd has
has_take (suc n) [] r has = has
has_take (suc n) (x ∷ xs) r (inl is) = inl is
has_take (suc n) (x ∷ xs) r (inr has) = inr (has_take n xs r has)

has_drop : (n : ℕ) (xs : List ℕ) (r : ℕ) → Has (drop n xs) r → Has xs r
has_drop zero xs r has = has
has_drop (suc n) [] r has = has
has_drop (suc n) (x ∷ xs) r has = inr (has_drop n xs r has)

below : (xs : List ℕ) → ((r : ℕ) → Has xs r → r < MASK24) → (k d : ℕ) → k < length xs → get_or xs k d < MASK24
below [] all k d here = absurd (omega arith)
below (x ∷ xs) all zero d here = all x (inl refl)
below (x ∷ xs) all (suc k) d here = below xs (λ r has. all r (inr has)) k d (omega arith)

-- what is left of numbers that are below FFFFFF
pub left_below : (xs : List ℕ) (n m : ℕ) → ((r : ℕ) → Has xs r → r < MASK24) → (k d : ℕ) → k < length (take n (drop m xs))
    → get_or (take n (drop m xs)) k d < MASK24
left_below xs n m all = below (take n (drop m xs)) (λ r has. all r (has_drop m xs r (has_take n (drop m xs) r has)))
