-- The rows that list a schema say which one it is.
use Rattle.std.proofs.Common.{◌≡◌, ◌+◌, List, [], ◌∷◌, IsTrue, refl, sym, ap, ap₂, subst, ◌∙◌, arith}
use Rattle.std.specs.List.{AllZip}
use Rattle.sqlite.specs.{Compile.table_defined_by, Effect.Database, Effect.IsDatabase, Order.Row, Schema.Schema, State.State, State.IsLive, State.Opens}
use Rattle.sqlite.specs.{Table.Table, Tree.Trees}
use Rattle.sqlite_catalog.specs.Listing.{IsTableRow}
use Rattle.dali_script.specs.declared.records.Record.{Record}
use Rattle.dali_sqlite.specs.{Stored.IsTableOf, Stored.Holds, Stored.Lists, Table.record_schema}

none_zipped : {A B C : Type 0} (R : A → B → Type 0) (S : A → C → Type 0) (xs : List A) (ys : List C) → AllZip R xs [] → AllZip S xs ys → ys ≡ []
none_zipped R S [] [] none some = refl
none_zipped R S [] (y ∷ ys) none some = absurd some
none_zipped R S (x ∷ xs) ys none some = absurd none

one_zipped : {A B : Type 0} (R : A → B → Type 0) → ((x : A) (y z : B) → R x y → R x z → z ≡ y) → (xs : List A) (ys zs : List B)
    → AllZip R xs ys → AllZip R xs zs → zs ≡ ys
one_zipped R one [] [] [] first other = refl
one_zipped R one [] [] (z ∷ zs) first other = absurd other
one_zipped R one [] (y ∷ ys) zs first other = absurd first
one_zipped R one (x ∷ xs) [] zs first other = absurd first
one_zipped R one (x ∷ xs) (y ∷ ys) [] first other = absurd other
one_zipped R one (x ∷ xs) (y ∷ ys) (z ∷ zs) first other =
    ap₂ (λ t more. t ∷ more) (one x y z first.0 other.0) (one_zipped R one xs ys zs first.1 other.1)

-- a row that lists a table is of that one alone
one_table : (row : Row) (t u : Table) → IsTableRow row t → IsTableRow row u → u ≡ t
one_table row t u first other =
    let texts = sym first.sql_is ∙ other.sql_is in
    let text : first.sql ≡ other.sql = cc in
    let both = sym first.defined.1 ∙ ap table_defined_by text ∙ other.defined.1 in
    let made : first.defined.0 ≡ other.defined.0 = cc in
    let ids = sym first.described.id ∙ other.described.id in
    let next : t.tree + 1 ≡ u.tree + 1 = cc in
    let tree : t.tree ≡ u.tree = omega (arith, next) in
    other.defined.2 ∙ ap₂ (λ (m : Table) n. record m { tree = n }) (sym made) (sym tree) ∙ sym first.defined.2

pub one_schema : (trees : Trees) (other : Schema) → IsDatabase (record { schema = record_schema; trees = trees })
    → IsDatabase (record { schema = other; trees = trees }) → other ≡ record_schema
one_schema trees other first second =
    let tables : other.tables ≡ record_schema.tables = one_zipped IsTableRow one_table _ _ _ first.lists.listed.tables second.lists.listed.tables in
    let indexes : other.indexes ≡ [] = none_zipped _ _ _ _ first.lists.listed.indexes second.lists.listed.indexes in
    let views : other.views ≡ [] = none_zipped _ _ _ _ first.lists.listed.views second.lists.listed.views in
    let all : other ≡ record { tables = record_schema.tables; indexes = []; views = [] } =
    ap₂ (λ t i. record { tables = t; indexes = i; views = other.views }) tables indexes
    ∙ ap (λ v. record { tables = record_schema.tables; indexes = []; views = v }) views in
    all

-- what an open store that holds a list has committed
pub committed_table : (s : State) (xs : List Record) → IsTrue s.is_open → IsLive s → Holds s xs → IsTableOf s.committed.trees xs
committed_table s xs is_open live held = record {
  table = subst (λ (d : Database). IsDatabase (record { schema = record_schema; trees = d.trees })) held.has.committed
      (subst (λ schema. IsDatabase (record { schema = schema; trees = s.now.trees })) held.has.table (live is_open).0);
  rows = subst (λ (d : Database). Lists d.trees xs) held.has.committed held.rows;
}

-- a connection that was opened over such trees holds the list
pub opened_holds : (s : State) (trees : Trees) (xs : List Record) → Opens s → IsLive s → s.committed.trees ≡ trees → IsTableOf trees xs → Holds s xs
opened_holds s trees xs opens live same found =
    let now : s.now.trees ≡ trees = ap (λ (d : Database). d.trees) opens.clean ∙ same in
    let sound = subst (λ t. IsDatabase (record { schema = s.now.schema; trees = t })) now (live opens.is_open).0 in
    record {
      has = record { table = one_schema trees s.now.schema found.table sound; autocommit = opens.autocommit; committed = opens.clean };
      rows = subst (λ t. Lists t xs) (sym now) found.rows;
    }
