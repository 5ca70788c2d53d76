use Rattle.std.specs.Prelude.{ℕ, List, [], ◌∷◌, ◌++◌}
use Rattle.dali_script.specs.declared.block.Block.{Block}
use Rattle.dali_script.specs.Records.{Assignment, Kept}

-- A controller's block of short addresses, and the gear that it enrolled, oldest first: each short
-- address with the random address of its gear.
pub record Table : Type 0 where
  pub block : Block
  pub entries : List Assignment

abbrev pub at_first : Block → Table
at_first b = record { block = b; entries = [] }

-- the table with one more entry
abbrev pub with_entry : Table → ℕ → ℕ → Table
with_entry t address number = record t { entries = t.entries ++ (address, number) ∷ [] }

-- the table of what is kept is its enrolments
abbrev pub table_of : Kept → Table
table_of k = record { block = k.block; entries = k.enrolled }

-- an entry of a table: the short address and the random address of an enrolled gear
pub record Enrolled : Type 0 where
  pub short : ℕ
  pub random : ℕ

abbrev pub entry : ℕ → ℕ → Enrolled
entry short random = record { short = short; random = random }
