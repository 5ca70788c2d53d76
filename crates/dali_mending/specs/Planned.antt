use Rattle.std.specs.Prelude.{◌≡◌, ◌≢◌, ◌⊎◌, ℕ, ◌<◌, true, not, ◌||◌, ◌&&◌, ◌==◌, nat_lt, unwrap_or}
use Rattle.std.specs.Prelude.{List, [], ◌∷◌, map, slice_get, Some, None}
use Rattle.std.specs.List.{list_any, list_all}
use Rattle.dali_statement.specs.Gear.{gear_seen}
use Rattle.dali_statement.specs.Page.{Gear, Plan, holds}
use Rattle.dali_mending.specs.Rows.{Site, Sending, all_sent, AllSpare}

-- SHORT ADDRESSES ARE MENDED one after the other, each by some transactions
pub record Mended : Type 0 where
  pub short : ℕ
  pub sendings : List Sending

abbrev pub all_mended : List Mended → Site → Site
all_mended [] s = s
all_mended (m ∷ ms) s = all_mended ms (all_sent m.short m.sendings s)

abbrev pub IsMended : ℕ → List Mended → Type 0
IsMended a [] = ⊥
IsMended a (m ∷ ms) = (m.short ≡ a) ⊎ IsMended a ms

-- some table has this short address with this random address
abbrev pub IsTabled : Plan → ℕ → ℕ → Type 0
IsTabled p a r = (c : ℕ) × (p.enrolled c a r ≡ true)

-- each was mended with all tables: it spares their gear
abbrev pub AreSpared : Plan → List Mended → Type 0
AreSpared p [] = Unit {0}
AreSpared p (m ∷ ms) = ((r : ℕ) → IsTabled p m.short r → AllSpare r m.sendings) × AreSpared p ms

-- each gear of a row with a short address has this random address
abbrev pub AllHave : ℕ → ℕ → List Gear → Type 0
AllHave a r gs = (i : ℕ) (g : Gear) → slice_get gs i ≡ Some g → g.short ≡ Some a → g.random ≡ r

-- ONE NUMBER ALONE is at a short address, or no gear is
abbrev pub IsOneNumber : ℕ → List Gear → Type 0
IsOneNumber a gs = (r : ℕ) × (r ≢ 0xFFFFFF) × AllHave a r gs

-- GEAR AND RECORDS are those of a plan of the page, but for short addresses that gear may share.
-- What is reserved of these is in a table.
pub record IsPlanBut (shared : ℕ → Type 0) (p : Plan) : Type 0 where
  pub shorts : (i j a : ℕ) (g h : Gear) → slice_get p.gear i ≡ Some g → slice_get p.gear j ≡ Some h
      → g.short ≡ Some a → h.short ≡ Some a → (i ≡ j) ⊎ shared a
  pub short : list_all (λ g. nat_lt (unwrap_or g.short 0) 64) p.gear ≡ true
  pub reserved : (c a r : ℕ) → p.reserved c a ≡ Some r
      → (p.block a ≡ c) × (a < 64) × (r < 0xFFFFFF)
      × ((shared a → ⊥) → AllHave a r p.gear) × (shared a → IsTabled p a r)
  pub enrolled : (c a r : ℕ) → p.enrolled c a r ≡ true
      → list_any (λ g. holds a g.short && (g.random == r)) p.gear ≡ true

-- the plan with the gear as they are now
abbrev pub with_gear : Plan → Site → Plan
with_gear p s = record {
  gear = map gear_seen s.gear;
  block = p.block;
  reserved = p.reserved;
  enrolled = p.enrolled;
}
