use Rattle.std.specs.Prelude.{ℕ, zero, suc, ◌+◌, List, [], ◌∷◌, ◌++◌, None}
use Rattle.dali_ring.specs.declared.slots.Slot.{Slot}

-- this many slots with no item, of which each leads to the one after it
abbrev pub fresh_to : {X : Type 0} → ℕ → List (Slot X)
fresh_to zero = []
fresh_to (suc n) = fresh_to n ++ record { link = n + 1; item = None } ∷ []
