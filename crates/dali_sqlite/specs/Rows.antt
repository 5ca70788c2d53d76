use Rattle.std.specs.Prelude.{◌≡◌, ℕ, ◌+◌, pos, List, [], ◌∷◌}
use Rattle.sqlite.specs.declared.types.Value.TheVariants.{Int}
use Rattle.sqlite.specs.Order.{Row, column}
use Rattle.dali_script.specs.declared.records.Record.{Record}
use Rattle.dali_script.specs.Records.{address_of, random_of}
use Rattle.dali_script.specs.Names.{record_code}

-- A RECORD AS A ROW: its place in the list, from 1 on, its kind, its short address and its random
-- address.
abbrev pub row_of : ℕ → Record → Row
row_of seq x =
    Int (pos seq) ∷ Int (pos (record_code x)) ∷ Int (pos (address_of x))
    ∷ Int (pos (random_of x)) ∷ []

-- the rows of a list of records, of which so many came before
abbrev pub rows_after : ℕ → List Record → List Row
rows_after before [] = []
rows_after before (x ∷ xs) = row_of (before + 1) x ∷ rows_after (before + 1) xs

-- what seq, kind, address and random show of a row of the table: seq stands for the rowid, which
-- comes first, and its own place has NULL
abbrev pub shown_of : Row → Row
shown_of row = column row 0 ∷ column row 2 ∷ column row 3 ∷ column row 4 ∷ []

-- the first four values of a row, NULL if there is none
abbrev pub four_of : Row → Row
four_of row = column row 0 ∷ column row 1 ∷ column row 2 ∷ column row 3 ∷ []

-- the values after the first are those of the record
pub record Spells (row : Row) (x : Record) : Type 0 where
  pub kind : column row 1 ≡ Int (pos (record_code x))
  pub address : column row 2 ≡ Int (pos (address_of x))
  pub random : column row 3 ≡ Int (pos (random_of x))
