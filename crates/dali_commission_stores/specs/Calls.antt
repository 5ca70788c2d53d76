use Rattle.std.specs.Prelude.{◌≡◌, ℕ, Bool, List, [], ◌∷◌, Option}
use Rattle.dali_script.specs.Records.{Kept}

-- A CALL OF THE PLACES where records are kept, which changes something there, with its names: a
-- text was written, what has one name was given another one, or the rights of another one, or was
-- removed; what was done in its folder was put on the disk; records were opened, or closed
pub data Call : Type 0 where
  Wrote : List ℕ → List ℕ → Call
  Renamed : List ℕ → List ℕ → Call
  Likened : List ℕ → List ℕ → Call
  Removed : List ℕ → Call
  Synced : List ℕ → Call
  Opened : List ℕ → Call
  Closed : List ℕ → Call

-- these calls were made, in this order and no other, by what tells that one was
abbrev pub AreMade : {F : Type 0} → (F → F → Call → Type 0) → List Call → F → F → Type 0
AreMade made [] x y = x ≡ y
AreMade made (call ∷ more) x y = (z : _) × made x z call × AreMade made more z y

-- A LOOK at the places, with its answer: whether something has a name; the text of a name, if there
-- is one; the name under which it lies, whatever links lead there; the records of a name; and that
-- all others are kept from acting by a name
pub data Look : Type 0 where
  Has : List ℕ → Bool → Look
  Text : List ℕ → Option (List ℕ) → Look
  Lies : List ℕ → List ℕ → Look
  Read : List ℕ → Kept → Look
  Alone : List ℕ → Look
