-- What the three texts do.
use Rattle.std.proofs.Common.{◌≡◌, ◌⊎◌, inl, inr, ℕ, ℤ, List, [], ◌∷◌, Bool, true, false, not, cond, Option, None, Ok, Err, Result, Ordering, Less, Equal}
use Rattle.std.proofs.Common.{Greater, is_eq, IsPermutation, refl, sym, ap, subst, ◌∙◌, ◌&&◌}
use Rattle.std.proofs.lemmas.{Bool.or_parts, List.Sorted.IsPermutation-refl, List.Sorted.IsPermutation-cons, List.Sorted.IsPermutation-trans}
use Rattle.std.{proofs.lemmas.List.Sorted.IsPermutation-middle, specs.List.list_any, specs.Ordering.match_ordering}
use Rattle.sqlite.{proofs.Callers.one_step, specs.Cast.cast, specs.Command.TheVariants.Insert}
use Rattle.sqlite.specs.{Does.Tally, Does.Does, Edit.edit_of, Edit.is_taken, Effect.Database, Kind.TheVariants.Integer, Ops.unary, Order.Row, Order.value_cmp}
use Rattle.sqlite.specs.{Rowids.TheVariants.Chosen, Rows.Written, Source.TheVariants.Values, Tree.Trees, Tree.rowid, Tree.put_row, declared.run.Mode.Mode}
use Rattle.sqlite.specs.declared.types.Value.{Value, TheVariants.Null, TheVariants.Int}
use Rattle.dali_sqlite.{specs.Table.record_table, specs.Table.record_schema, proofs.Texts.terms}

-- ---- a row with a new rowid, put where it belongs, is one row more

found_new : (new r : Row) (rows : List Row) (o : Ordering) → value_cmp (rowid r) (rowid new) ≡ o → is_eq o ≡ false
    → IsPermutation (put_row new rows) (new ∷ rows)
    → IsPermutation (match_ordering o (r ∷ put_row new rows) (new ∷ rows) (new ∷ r ∷ rows)) (new ∷ r ∷ rows)
found_new new r rows Less is apart later = IsPermutation-trans _ _ _ (IsPermutation-cons r _ _ later) (IsPermutation-middle (r ∷ []) new rows)
found_new new r rows Equal is apart later = absurd cc
found_new new r rows Greater is apart later = IsPermutation-refl _

pub put_new : (new : Row) (rows : List Row) → is_taken rows new ≡ false → IsPermutation (put_row new rows) (new ∷ rows)
put_new new [] free = IsPermutation-refl _
put_new new (r ∷ rows) free =
    let apart = or_parts (is_eq (value_cmp (rowid r) (rowid new))) (list_any (λ s. is_eq (value_cmp (rowid s) (rowid new))) rows) free in
    found_new new r rows (value_cmp (rowid r) (rowid new)) refl apart.0 (put_new new rows apart.1)

-- ---- what a whole number becomes in a column of whole numbers: itself

either : (b : Bool) (v : Value) → cond b v v ≡ v
either true v = refl
either false v = refl

whole : (n : ℤ) → cast Integer (Int n) ≡ Int n
unfolding unary
whole n = either _ (Int n)

nothing : cast Integer Null ≡ Null
unfolding unary
nothing = either _ Null

-- ---- a part that gave a value did not stop

pub gave : {B E R : Type 0} {b : B} {Stops : E → Type 0} → ((stop : E) × Stops stop × (Ok b ≡ Err stop)) ⊎ R → R
gave (inl stopped) = absurd (let impossible = stopped.2 in cc)
gave (inr on) = on

pub the_same : {B E : Type 0} {a b : B} → ◌≡◌ {A = Result B E} (Ok a) (Ok b) → a ≡ b
the_same is = cc

fresh_one : (b : Bool) → (not b && true) ≡ true → b ≡ false
fresh_one true is = cc
fresh_one false is = refl

-- the row that the text puts in
abbrev pub put_in : ℤ → ℤ → ℤ → ℤ → Row
put_in seq kind address random = Int seq ∷ Null ∷ Int kind ∷ Int address ∷ Int random ∷ []

abbrev pub given : ℤ → ℤ → ℤ → ℤ → Row
given seq kind address random = Int seq ∷ Int kind ∷ Int address ∷ Int random ∷ []

pub inserts : (limit : Option ℕ) (mode : Mode) (db after : Database) (text : List ℕ) (tally : Tally) (seq kind address random : ℤ) → db.schema ≡ record_schema
    → Does limit mode (given seq kind address random) db text None (Insert 0 (Values terms 5)) (Ok (tally, after))
    → (after.schema ≡ record_schema) × IsPermutation (after.trees 0) (put_in seq kind address random ∷ db.trees 0)
inserts limit mode db after text tally seq kind address random has does =
    let params = given seq kind address random in
    let new = put_in seq kind address random in
    let done = gave (subst (λ s. Does limit mode params (record db { schema = s }) text None (Insert 0 (Values terms 5)) (Ok (tally, after))) has does) in
    let now = ap (λ (p : Tally × Database). p.1) (the_same (gave (gave done.2).2).2) in
    let sourced = gave done.1 in
    let written = gave (gave sourced.2).2 in
    let counted = gave written.2 in
    let trees : done.0.trees ≡ written.0 = ap (λ (it : Written). it.trees) (the_same counted.2) ∙ the_same counted.1 in
    let edit = edit_of db.trees record_table [] Chosen 0 sourced.0 in
    let applies = one_step record_schema _ db.trees written.0 edit refl written.1 in
    let news : edit.news ≡ new ∷ [] =
    ap (λ all. (edit_of db.trees record_table [] Chosen 0 all).news) sourced.1.1 ∙ rw (whole seq, whole kind, whole address, whole random, nothing) refl in
    let free = fresh_one (is_taken (db.trees 0) new) (rw news at applies.fresh) in
    let rows : written.0 0 ≡ put_row new (db.trees 0) = applies.rows ∙ rw news refl in (
      ap (λ (d : Database). d.schema) now,
      subst (λ rows. IsPermutation rows (new ∷ db.trees 0)) (sym (ap (λ (d : Database). d.trees 0) now ∙ ap (λ (t : Trees). t 0) trees ∙ rows))
          (put_new new (db.trees 0) free),
    )
