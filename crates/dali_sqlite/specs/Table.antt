use Rattle.std.specs.Prelude.{ℕ, pos, Bool, true, false, List, [], ◌∷◌, Some, codes}
use Rattle.sqlite.specs.Collation.TheVariants.{Binary}
use Rattle.sqlite.specs.declared.types.Value.TheVariants.{Null, Int}
use Rattle.sqlite.specs.Term.{Term, lit, col, op2}
use Rattle.sqlite_sql.specs.declared.ops.BinaryOp.TheVariants.{And, Compare}
use Rattle.sqlite_sql.specs.declared.ops.CompareOp.TheVariants.{Ge, Le}
use Rattle.sqlite.specs.Table.{Table}
use Rattle.sqlite.specs.Schema.{Schema}
use Rattle.sqlite_schema.specs.declared.schema.Column.{Column}
use Rattle.sqlite.specs.Kind.TheVariants.{Integer}

-- a column of whole numbers, which may be NULL or not
abbrev pub whole_numbers : List ℕ → Bool → Column
whole_numbers name not_null = record {
  name = name;
  kind = Integer;
  is_strict = false;
  not_null = not_null;
  default = Null;
  collation = Binary;
}

-- CHECK: the column at this place lies between 0 and a greatest number
abbrev pub at_most : ℕ → ℕ → Term
at_most place greatest =
    op2 And
    (op2 (Compare Ge Binary) (col 1 place) (lit (Int (pos 0))))
    (op2 (Compare Le Binary) (col 1 place) (lit (Int (pos greatest))))

-- THE TABLE, as SQLite understands its text. A row is its rowid and then its columns, of which seq
-- stands for the rowid.
abbrev pub record_table : Table
record_table = record {
  name = codes "record";
  tree = 0;
  columns = whole_numbers (codes "seq") false
      ∷ whole_numbers (codes "kind") true
      ∷ whole_numbers (codes "address") true
      ∷ whole_numbers (codes "random") true ∷ [];
  key = Some 0;
  primary = 0 ∷ [];
  uniques = [];
  orders = [];
  checks = at_most 3 63 ∷ at_most 4 16777214 ∷ [];
  references = [];
  computed = [];
  stamps = record { places = []; terms = []; formats = [] };
  is_counted = false;
}

-- a database of this table alone, and one of none
abbrev pub record_schema : Schema
record_schema = record { tables = record_table ∷ []; indexes = []; views = [] }

abbrev pub no_schema : Schema
no_schema = record { tables = []; indexes = []; views = [] }
