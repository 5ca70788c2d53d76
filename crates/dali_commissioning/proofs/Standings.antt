use Rattle.std.proofs.Common.{◌≡◌, arith, ℕ, ◌+◌, suc, List, [], ◌∷◌, ◌++◌, refl, subst}
use Rattle.dali_script.specs.{Records.Kept, declared.block.Block.Block}
use Rattle.dali_commissioning.specs.{Places.place_at, Places.places_below, declared.census.Reply.Reply}

-- no short address, and one more
pub none : (k : Kept) (others : List Block) (replies : List Reply) → places_below 0 k others replies ≡ []
unfolding places_below
none k others replies = refl

after : (n : ℕ) (k : Kept) (others : List Block) (replies : List Reply)
    → places_below (suc n) k others replies ≡ places_below n k others replies ++ place_at k others replies n ∷ []
unfolding places_below
after n k others replies = refl

pub one_more : (n : ℕ) (k : Kept) (others : List Block) (replies : List Reply)
    → places_below (n + 1) k others replies ≡ places_below n k others replies ++ place_at k others replies n ∷ []
one_more n k others replies =
    let is : suc n ≡ n + 1 = omega arith in
    subst (λ m. places_below m k others replies ≡ places_below n k others replies ++ place_at k others replies n ∷ []) is
    (after n k others replies)
