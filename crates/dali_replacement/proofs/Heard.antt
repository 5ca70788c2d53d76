use Rattle.std.proofs.Common.{◌≡◌, arith, ℕ, ◌+◌, List, [], ◌∷◌, ◌++◌, length, refl, subst}
use Rattle.dali_script.specs.Records.{Kept}
use Rattle.dali_commissioning.specs.declared.census.Reply.{Reply}
use Rattle.dali_commissioning.specs.Drivers.{Talk}
use Rattle.dali_replacement.specs.Standing.{IsHeard, AreHeard}

-- one short address more
pub heard_more : (k : Kept) (a n : ℕ) (rs : List Reply) (r : Reply) (x y z : Talk)
    → AreHeard k a rs x y → length rs + a ≡ n → IsHeard k n r y z → AreHeard k a (rs ++ r ∷ []) x z
heard_more k a n [] r x y z so_far at one =
    (z, subst (λ b. IsHeard k b r x z) (omega (arith, at)) (subst (λ t. IsHeard k n r t z) so_far one), refl)
heard_more k a n (s ∷ rs) r x y z (mid, first_one, rest) at one =
    (mid, first_one, heard_more k (a + 1) n rs r mid y z rest (omega (arith, at)) one)
