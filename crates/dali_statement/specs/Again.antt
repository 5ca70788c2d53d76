use Rattle.std.specs.Prelude.{◌≡◌, ℕ, true, Some, None, List, slice_get, slice_set}
use Rattle.dali_statement.specs.Page.{Gear, Moment, Plan, start, after}

-- WHERE A HISTORY ENDED, AS A PLAN: the gear and the records that are there then.
abbrev pub ended : Plan → List Moment → Plan
ended p ms = record {
  gear = (after (start p) ms).gear;
  block = p.block;
  reserved = (after (start p) ms).reserved;
  enrolled = (after (start p) ms).enrolled;
}

-- RECORDS WITHOUT A SHORT ADDRESS, in which nothing is new: what is reserved was reserved, and what
-- stands in a table stood in some table.
pub record AreWithout (a : ℕ) (p q : Plan) : Type 0 where
  pub reserved : (c b r : ℕ) → q.reserved c b ≡ Some r
      → (b ≡ a → ⊥) × (p.reserved c b ≡ Some r)
  pub enrolled : (c b r : ℕ) → q.enrolled c b r ≡ true
      → (b ≡ a → ⊥) × (d : ℕ) × (p.enrolled d b r ≡ true)

-- A GEAR IS REPLACED: another stands in its place, and no record has its short address any more.
pub record IsReplaced (p : Plan) (g : ℕ) (old new : Gear) (a : ℕ) (q : Plan) : Type 0 where
  pub there : slice_get p.gear g ≡ Some old
  pub had : old.short ≡ Some a
  pub bare : new.short ≡ None
  pub gear : q.gear ≡ slice_set p.gear g new
  pub block : q.block ≡ p.block
  pub records : AreWithout a p q
