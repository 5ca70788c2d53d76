use Rattle.std.proofs.Common.{◌≡◌, ℕ, ◌<◌, ◌+◌, ◌⊎◌, inl, inr, true, false, Option, Some, None, List, ◌∷◌, drop, length, get_or, sym, ap, ◌∙◌, arith, ◌↔◌}
use Rattle.std.proofs.Common.{IsSome, IfSome, if◌then◌else◌}
use Rattle.std.proofs.lemmas.{Bool.Decides.nat_tests, List.drop_more}
use Rattle.dali_script.specs.{Records.Assignment, Stages.in_block, declared.block.Block.Block}
use Rattle.dali_commissioning.specs.Runs.{outside}

-- A PAIR OUTSIDE OF A BLOCK is the first one, if those before it lie in the block.
out : (b : Block) (n : ℕ) → (n < b.first) ⊎ (b.last < n) → in_block b n ≡ false
out b n (inl below) = grind (arith, nat_tests)
out b n (inr above) = grind (arith, nat_tests)

pub outside_here : (b : Block) (xs : List Assignment) (i : ℕ) (p : Assignment) → i < length xs → p ≡ get_or xs i p → (p.0 < b.first) ⊎ (b.last < p.0)
    → outside b xs ≡ outside b (drop i xs) → outside b xs ≡ Some p.0
outside_here b xs i p inside is here before =
    before ∙ ap (outside b) (drop_more xs i p inside ∙ ap (λ q. q ∷ drop (i + 1) xs) (sym is))
    ∙ ap (λ t. if t then outside b (drop (i + 1) xs) else Some p.0) (out b p.0 here)

pub short_is : (o : Option ℕ) (n : ℕ) → IsSome o ↔ (n < 64) → IfSome o (λ s. s ≡ n) → n < 64 → o ≡ Some n
short_is None n range value small = absurd (let some : false ≡ true = range.1 small in cc)
short_is (Some s) n range value small = ap Some value
