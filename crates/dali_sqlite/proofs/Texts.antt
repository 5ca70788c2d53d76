use Rattle.std.proofs.Common.{◌≡◌, ℕ, pos, negsuc, List, [], ◌∷◌, ◌++◌, codes, false, Some, None, Ok, refl}
use Rattle.sqlite.{proofs.Callers.IsPlain, proofs.Callers.command_of, proofs.Callers.statement_of, specs.Collation.TheVariants.Binary}
use Rattle.sqlite.specs.Command.TheVariants.{Insert, Select, CreateTable}
use Rattle.sqlite.specs.{Compile.table_defined_by, Listing.understood, Listing.reads_listing, Listing.listing_schema, Query.Query, Query.inner, Query.end}
use Rattle.sqlite.specs.{Source.TheVariants.Values, Term.Term, Term.lit, Term.col, declared.types.Value.TheVariants.Null, declared.types.Value.TheVariants.Int}
use Rattle.sqlite_schema.specs.Names.{table_named, same_name}
use Rattle.sqlite_tied.specs.Compute.{everything}
use Rattle.sqlite_value.specs.Keys.{ascending}
use Rattle.dali_sqlite.specs.Table.{record_table, record_schema, no_schema}

-- THE TEXTS that the code hands to SQLite.
abbrev pub create_text : List ℕ
create_text =
    codes "CREATE TABLE record(\n  seq INTEGER PRIMARY KEY,\n  kind INTEGER NOT NULL,\n"
    ++ codes "  address INTEGER NOT NULL CHECK(address BETWEEN 0 AND 63),\n"
    ++ codes "  random INTEGER NOT NULL CHECK(random BETWEEN 0 AND 16777214))"

abbrev pub insert_text : List ℕ
insert_text = codes "INSERT INTO record VALUES (?1, ?2, ?3, ?4)"

abbrev pub select_text : List ℕ
select_text = codes "SELECT seq, kind, address, random FROM record ORDER BY seq"

abbrev pub objects_text : List ℕ
objects_text = codes "SELECT type, name, sql FROM sqlite_schema"

-- the values of a new row, by the parameters
abbrev pub terms : List Term
terms = col 0 0 ∷ lit Null ∷ col 0 1 ∷ col 0 2 ∷ col 0 3 ∷ []

abbrev pub query : Query
query = record {
  from = inner 0 end;
  filter = [];
  group = None;
  project = col 1 0 ∷ col 1 2 ∷ col 1 3 ∷ col 1 4 ∷ [];
  distinct = false;
  collations = [];
  order = (col 1 0, ascending Binary) ∷ [];
  limit = lit (Int (negsuc 0));
  offset = lit (Int (pos 0));
}

pub create_is : (command_of (understood no_schema create_text) ≡ CreateTable) × (statement_of create_text (understood no_schema create_text) ≡ create_text)
    × (table_defined_by create_text ≡ Ok record_table)
unfolding understood everything
create_is = (refl, refl, refl)

pub create_plain : IsPlain (understood no_schema create_text)
unfolding understood everything
create_plain = (refl, refl)

pub insert_is : command_of (understood record_schema insert_text) ≡ Insert 0 (Values terms 5)
unfolding understood everything
insert_is = refl

pub insert_plain : IsPlain (understood record_schema insert_text)
unfolding understood everything
insert_plain = (refl, refl)

pub select_is : (command_of (understood record_schema select_text) ≡ Select (record { lets = []; body = query })
    (codes "seq" ∷ codes "kind" ∷ codes "address" ∷ codes "random" ∷ []))
    × (reads_listing record_schema select_text ≡ false)
unfolding understood everything
select_is = (refl, refl)

pub select_plain : IsPlain (understood record_schema select_text)
unfolding understood everything
select_plain = (refl, refl)

pub objects_plain : IsPlain (understood record_schema objects_text)
unfolding understood everything listing_schema
objects_plain = (refl, refl)

pub named : (table_named record_schema (codes "record") ≡ Some 0) × (table_named no_schema (codes "record") ≡ None)
unfolding same_name
named = (refl, refl)
