-- What the three texts make of a connection.
use Rattle.std.proofs.Common.{◌≡◌, inl, inr, ℕ, ◌+◌, ℤ, List, [], ◌∷◌, ◌++◌, map, flat_map, length, false, None, Ok, Err, Result, IfOk, IfErr, IsTrue}
use Rattle.std.proofs.Common.{IsPermutation, refl, sym, ap, subst, ◌∙◌, arith, append-nil, if◌then◌else◌}
use Rattle.std.proofs.lemmas.List.Sorted.{IsPermutation-refl, IsPermutation-sym, IsPermutation-map, IsPermutation-trans, IsPermutation-append_left}
use Rattle.std.proofs.lemmas.List.Sorted.{IsPermutation-to_front}
use Rattle.sqlite.proofs.Callers.{IsPlain, command_of, statement_of, runs_as, reads_as, never_commits}
use Rattle.sqlite.specs.{Change.created, Change.next_tree, Command.TheVariants.Insert, Command.TheVariants.CreateTable, Does.Tally, Does.Does}
use Rattle.sqlite.specs.{Does.lacks_sequence, Effect.Database, Effect.IsDatabase, Listing.understood, Order.Row, Program.overlay, Query.IsAnswer, Query.Output}
use Rattle.sqlite.specs.{Query.output, Source.TheVariants.Values}
use Rattle.sqlite.specs.State.{State, IsUnchanged, Shows, Executes, Shown, FailsToQuery, CommitsBy, CommitsShowing, text_of, mode_of}
use Rattle.sqlite.specs.{Term.Env, Tree.Trees, declared.error.Error.Error, declared.types.Value.TheVariants.Null, declared.types.Value.TheVariants.Int}
use Rattle.sqlite_keyed.proofs.ListLemmas.{map-map}
use Rattle.dali_script.specs.declared.records.Record.{Record}
use Rattle.dali_sqlite.specs.{Rows.row_of, Rows.rows_after, Rows.shown_of, Rows.four_of, Stored.IsTableOf, Stored.HasTable, Stored.Holds, Stored.Lists}
use Rattle.dali_sqlite.{specs.Table.record_table, specs.Table.record_schema, specs.Table.no_schema, proofs.Inserted.gave, proofs.Inserted.the_same}
use Rattle.dali_sqlite.proofs.{Inserted.given, Inserted.put_in, Inserted.inserts, Open.same_has, Open.shown_open, Open.query_stays, Open.stays_open}
use Rattle.dali_sqlite.proofs.{Open.stays_holds, Ordered.keyed, Ordered.in_order, Ordered.rows_more, Texts.create_text, Texts.create_is, Texts.create_plain}
use Rattle.dali_sqlite.proofs.Texts.{insert_text, insert_is, insert_plain, select_text, select_is, select_plain, terms, query, objects_text, objects_plain}

-- ---- CREATE TABLE

made : (old : State) (after : Database) (tally : Tally) (text : List ℕ) → old.now.schema ≡ no_schema → text ≡ create_text
    → Does old.step_limit (mode_of old) [] old.now text None CreateTable (Ok (tally, after))
    → (after.schema ≡ record_schema) × (after.trees 0 ≡ [])
made old after tally text has is does =
    let all = gave does in
    let first = gave all.1 in
    let table = first.1 in
    let both : Ok table.table ≡ Ok record_table =
    sym (subst (λ t. Rattle.sqlite.specs.Compile.table_defined_by t ≡ Ok table.table) is table.defined) ∙ create_is.2 in
    let same : table.table ≡ record_table = cc in
    let schema : first.0.schema ≡ record_schema = table.is ∙ ap (λ s. created s table.table) has ∙ ap (created no_schema) same in
    let plain : lacks_sequence first.0.schema ≡ false = ap lacks_sequence schema in
    let now : after ≡ first.0 = ap (λ (p : Tally × Database). p.1) (the_same all.2) ∙ the_same (rw plain at first.2) in
    (ap (λ (d : Database). d.schema) now ∙ schema, ap (λ (d : Database). d.trees 0) now ∙ subst (λ s. first.0.trees (next_tree s) ≡ []) has table.empty)

-- what a write outside a transaction shows, it has committed
wrote : (old new : State) → Shows old new new.now (if old.in_transaction then old.committed else new.now) old.in_transaction → old.in_transaction ≡ false
    → new.now.schema ≡ record_schema → HasTable new
wrote old new shown autocommit schema = record {
  table = schema;
  autocommit = shown.mode ∙ autocommit;
  committed = sym (shown.committed_is ∙ ap (λ b. if b then old.committed else new.now) autocommit);
}

pub creates : (old new : State) (count : ℕ) → old.now.schema ≡ no_schema → old.in_transaction ≡ false → Executes create_text [] old new (Ok count)
    → Holds new []
creates old new count has autocommit ran =
    let w = runs_as create_text [] old new no_schema has CreateTable create_is.0 create_plain count ran in
    let after = made old new.now w.tally (statement_of create_text (understood no_schema create_text)) has create_is.1 w.changed in
    record { has = wrote old new w.shown autocommit after.0; rows = rw after.1 (IsPermutation-refl []) }

-- ---- INSERT

pub lists_more : (trees after : Trees) (xs : List Record) (x : Record) (row : Row) → shown_of row ≡ row_of (length xs + 1) x → Lists trees xs
    → IsPermutation (after 0) (row ∷ trees 0) → Lists after (xs ++ x ∷ [])
lists_more trees after xs x row is held more =
    let new = row_of (length xs + 1) x in
    let mapped : IsPermutation (map shown_of (after 0)) (new ∷ map shown_of (trees 0)) =
    subst (λ r. IsPermutation (map shown_of (after 0)) (r ∷ map shown_of (trees 0))) is (IsPermutation-map shown_of _ _ more) in
    let last = IsPermutation-trans _ _ _ mapped (IsPermutation-sym _ _ (IsPermutation-to_front (map shown_of (trees 0)) new)) in
    let grown = IsPermutation-trans _ _ _ last (IsPermutation-append_left (new ∷ []) _ _ held) in
    let place : length xs + 1 ≡ 0 + length xs + 1 = omega arith in
    subst (IsPermutation (map shown_of (after 0))) (ap (λ at. rows_after 0 xs ++ row_of at x ∷ []) place ∙ sym (rows_more 0 xs x)) grown

pub adds : (old new : State) (count : ℕ) (seq kind address random : ℤ) (xs : List Record) (x : Record)
    → Int seq ∷ Int kind ∷ Int address ∷ Int random ∷ [] ≡ row_of (length xs + 1) x
    → Executes insert_text (Int seq ∷ Int kind ∷ Int address ∷ Int random ∷ []) old new (Ok count) → Holds old xs → Holds new (xs ++ x ∷ [])
adds old new count seq kind address random xs x is ran held =
    let w = runs_as insert_text _ old new record_schema held.has.table (Insert 0 (Values terms 5)) insert_is insert_plain count ran in
    let after = inserts old.step_limit (mode_of old) old.now new.now (statement_of insert_text (understood record_schema insert_text))
    w.tally seq kind address random held.has.table w.changed in
    record {
      has = wrote old new w.shown held.has.autocommit after.0;
      rows = lists_more old.now.trees new.now.trees xs x (put_in seq kind address random) is held.rows after.1;
    }

table_of : (db : Database) (xs : List Record) → db.schema ≡ record_schema → IsDatabase db → Lists db.trees xs → IsTableOf db.trees xs
table_of db xs has sound rows =
    record { table = subst (λ schema. IsDatabase (record { schema = schema; trees = db.trees })) has sound; rows = rows }

-- what a stop may leave: what it might have left before, or one record more
pub stops : (old : State) (seq kind address random : ℤ) (xs : List Record) (x : Record)
    → Int seq ∷ Int kind ∷ Int address ∷ Int random ∷ [] ≡ row_of (length xs + 1) x → Holds old xs → (trees : Trees)
    → CommitsBy insert_text (Int seq ∷ Int kind ∷ Int address ∷ Int random ∷ []) old trees → IsTableOf trees (xs ++ x ∷ [])
unfolding CommitsBy
stops old seq kind address random xs x is held trees commits =
    let params = given seq kind address random in
    let known = sym commits.1.is ∙ ap (λ s. understood s insert_text) held.has.table in
    let plain = subst IsPlain (sym known) insert_plain in
    let command : commits.0.command ≡ Insert 0 (Values terms 5) = ap command_of known ∙ insert_is in
    elim (commits.2) [
      | inl ends ↦ absurd (elim (ends.0) [
        | inl commit ↦ (let impossible = sym command ∙ commit in cc)
        | inr release ↦
            (let impossible = sym command ∙ release.2 in cc)
      ])
      | inr writes ↦
          let after = inserts old.step_limit (mode_of old) old.now writes.2 (text_of insert_text commits.0) writes.1 seq kind address random held.has.table
          (rw (plain.0, command, plain.1, append-nil params) at writes.3) in
          let rows = lists_more old.now.trees writes.2.trees xs x (put_in seq kind address random) is held.rows after.1 in
          subst (λ db. IsTableOf db (xs ++ x ∷ [])) (sym writes.5) (table_of writes.2 (xs ++ x ∷ []) after.0 writes.4 rows)
    ]

-- a record that was added is committed
pub endures : (old new : State) (count : ℕ) (seq kind address random : ℤ) (xs : List Record) (x : Record)
    → Int seq ∷ Int kind ∷ Int address ∷ Int random ∷ [] ≡ row_of (length xs + 1) x
    → Executes insert_text (Int seq ∷ Int kind ∷ Int address ∷ Int random ∷ []) old new (Ok count) → Holds old xs
    → IsTrue new.is_open × IsTableOf new.committed.trees (xs ++ x ∷ [])
endures old new count seq kind address random xs x is ran held =
    let w = runs_as insert_text _ old new record_schema held.has.table (Insert 0 (Values terms 5)) insert_is insert_plain count ran in
    let added = adds old new count seq kind address random xs x is ran held in (
      w.shown.is_open,
      subst (λ (d : Database). IsTableOf d.trees (xs ++ x ∷ [])) added.has.committed
          (table_of new.now (xs ++ x ∷ []) added.has.table w.sound added.rows),
    )

-- ---- SELECT

each_alone : {A B : Type 0} (f : A → B) (xs : List A) → flat_map (λ x. f x ∷ []) xs ≡ map f xs
each_alone f [] = refl
each_alone f (x ∷ xs) = ap (λ more. f x ∷ more) (each_alone f xs)

shows_unchanged : (sql : List ℕ) → IsPlain (understood record_schema sql) → (old new : State) (rows : List Row) → old.now.schema ≡ record_schema
    → Shown sql [] old new rows → IsUnchanged old new
unfolding Shown
shows_unchanged sql asks old new rows has shown =
    let known = sym shown.1.is ∙ ap (λ s. understood s sql) has in
    let plain = subst IsPlain (sym known) asks in
    (rw plain.0 at shown.2).3

pub selects_quietly : (old : State) (trees : Trees) → old.now.schema ≡ record_schema → CommitsShowing select_text [] old trees → ⊥
selects_quietly old trees has = never_commits select_text [] old trees (subst (λ s. IsPlain (understood s select_text)) (sym has) select_plain)

pub selects_same : (old new : State) (rows : List Row) → Shown select_text [] old new rows → HasTable old
    → (new.now ≡ old.now) × HasTable new × IsTrue new.is_open
selects_same old new rows shown has =
    let same = shows_unchanged select_text select_plain old new rows has.table shown in
    (same.0.now_is, same_has old new same.0.now_is (same.0.committed_is ∙ sym has.committed) (same.0.mode ∙ has.autocommit) has, same.0.is_open)

answer_of : (old new : State) (rows : List Row) → old.now.schema ≡ record_schema → Shown select_text [] old new rows
    → IsAnswer query (overlay old.now.trees []) [] rows
answer_of old new rows has shown = (reads_as select_text [] old new record_schema has _ select_is.0 select_plain select_is.1 rows shown).answer Null

module _ (trees : Trees) (rows : List Row) (a : IsAnswer query (overlay trees []) [] rows) where
  kept_is : a.kept ≡ map keyed (map shown_of (trees 0))
  kept_is =
      let env : Row → Env = λ row. [] ∷ row ∷ [] in
      let staged : a.staged ≡ map env (trees 0) = a.grouped ∙ each_alone env (trees 0) in
      a.distinct ∙ ap (map (output query)) staged ∙ map-map (output query) env (trees 0) ∙ sym (map-map keyed shown_of (trees 0))

  -- the rows are those of the table
  all_shown : IsPermutation (map shown_of (trees 0)) rows
  all_shown =
      let values = λ (o : Output). o.1 in
      let same = subst (λ kept. IsPermutation (map values kept) (map values a.ordered)) kept_is (IsPermutation-map values _ _ a.same) in
      subst (IsPermutation (map shown_of (trees 0))) (sym a.shown)
      (subst (λ all. IsPermutation all (map values a.ordered)) (map-map values keyed (map shown_of (trees 0)) ∙ map-map (λ row. row) shown_of (trees 0))
      same)

  -- and in the order of the list that is held
  shown_in_order : (xs : List Record) → Lists trees xs → rows ≡ rows_after 0 xs
  shown_in_order xs held =
      let keys = IsPermutation-map keyed _ _ (IsPermutation-sym _ _ held) in
      a.shown ∙ in_order xs a.ordered (IsPermutation-trans _ _ _ keys (subst (λ kept. IsPermutation kept a.ordered) kept_is a.same)) a.sorted

four_rows : (n : ℕ) (xs : List Record) → map four_of (rows_after n xs) ≡ rows_after n xs
four_rows n [] = refl
four_rows n (x ∷ xs) = ap (λ more. row_of (n + 1) x ∷ more) (four_rows (n + 1) xs)

-- what was read of a table that holds a list is the list's rows
pub selects_exactly : (old new : State) (rows : List Row) → Shown select_text [] old new rows → (xs : List Record) → Holds old xs
    → map four_of rows ≡ rows_after 0 xs
selects_exactly old new rows shown xs held =
    ap (map four_of) (shown_in_order old.now.trees rows (answer_of old new rows held.has.table shown) xs held.rows) ∙ four_rows 0 xs

-- and if they are the rows of a list, the table holds it
pub selects_found : (old new : State) (rows : List Row) → Shown select_text [] old new rows → HasTable old → (xs : List Record)
    → map four_of rows ≡ rows_after 0 xs → Holds new xs
selects_found old new rows shown has xs is =
    let same = selects_same old new rows shown has in
    let all = IsPermutation-map four_of _ _ (all_shown old.now.trees rows (answer_of old new rows has.table shown)) in
    let listed : Lists old.now.trees xs =
    subst (IsPermutation (map shown_of (old.now.trees 0))) is
    (subst (λ some. IsPermutation some (map four_of rows)) (map-map four_of shown_of (old.now.trees 0)) all) in
    record { has = same.1; rows = subst (λ (d : Database). Lists d.trees xs) (sym same.0) listed }

-- ---- What stands in the database

module _ {V : Type 0} (rows_of : V → List Row) (old new : State) where
  -- who asks leaves the list that is held
  pub asks_held : (r : Result V Error) → IfOk r (λ v. Shown objects_text [] old new (rows_of v)) → IfErr r (FailsToQuery objects_text [] old new)
      → IsTrue new.is_open → (xs : List Record) → Holds old xs → Holds new xs
  asks_held (Ok v) ok err up xs held =
      stays_holds old new (inl (shows_unchanged objects_text objects_plain old new (rows_of v) held.has.table ok)) up xs held
  asks_held (Err e) ok err up xs held = stays_holds old new (query_stays objects_text [] old new e err) up xs held

  -- and found the database open, if it leaves it so
  pub asks_open : (r : Result V Error) → IfOk r (λ v. Shown objects_text [] old new (rows_of v)) → IfErr r (FailsToQuery objects_text [] old new)
      → IsTrue new.is_open → IsTrue old.is_open
  asks_open (Ok v) ok err up = shown_open objects_text [] old new (rows_of v) ok
  asks_open (Err e) ok err up = stays_open old new (query_stays objects_text [] old new e err) up
