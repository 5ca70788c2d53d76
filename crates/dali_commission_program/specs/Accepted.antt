use Rattle.std.specs.Prelude.{◌≡◌, ◌⊎◌, ℕ, true, Some, slice_get, slice_set}
use Rattle.dali_statement.specs.Page.{Gear, Plan}

-- A GEAR IS ACCEPTED on the page of `dali_statement`: another one stands in the place of the one
-- that is gone, which never comes back, and has its short address. No record reserves the address
-- any more, each entry of it names the new gear, and nothing else in the records is new.
pub record IsAccepted (p : Plan) (g a : ℕ) (old new : Gear) (q : Plan) : Type 0 where
  pub there : slice_get p.gear g ≡ Some old
  pub had : old.short ≡ Some a
  pub has : new.short ≡ Some a
  pub gear : q.gear ≡ slice_set p.gear g new
  pub block : q.block ≡ p.block
  pub reserved : (c b r : ℕ) → q.reserved c b ≡ Some r
      → (b ≡ a → ⊥) × (p.reserved c b ≡ Some r)
  pub enrolled : (c b r : ℕ) → q.enrolled c b r ≡ true
      → ((b ≡ a) × (r ≡ new.random))
      ⊎ ((b ≡ a → ⊥) × ((d : ℕ) × (p.enrolled d b r ≡ true)))
