-- Rows that are taken one after the other. What is left of them and of the records decides what all of them make.
use Rattle.std.proofs.Common.{◌≡◌, ℕ, ◌+◌, ◌<◌, ◌≤◌, List, [], ◌∷◌, map, length, drop, get_or, refl, sym, ap, subst, ◌∙◌}
use Rattle.std.proofs.lemmas.List.{drop_more, drop_all}
use Rattle.sqlite.specs.Order.{Row}
use Rattle.dali_script.specs.{Records.Kept, Records.with_record, declared.records.Record.Record}
use Rattle.dali_reserve.specs.Store.{replay_of, IsGood, AreGood}
use Rattle.dali_sqlite.{specs.Rows.row_of, specs.Rows.rows_after, specs.Rows.four_of, proofs.Ordered.same_record}

-- the rows from this one on are those of a list that may be added
abbrev pub Makes : Kept → List Row → ℕ → List Record → Type 0
Makes kept rows before xs = (map four_of rows ≡ rows_after before xs) × AreGood kept xs

pub record HasTaken (first kept : Kept) (rows : List Row) (before : ℕ) : Type 0 where
  pub left : (xs : List Record) → Makes first rows 0 xs → (more : List Record) × Makes kept (drop before rows) before more
  pub whole : (more : List Record) → Makes kept (drop before rows) before more
      → (xs : List Record) × Makes first rows 0 xs × (replay_of kept more ≡ replay_of first xs)

-- the row that comes next is that of the record that comes next
next_is : (kept : Kept) (row : Row) (rows : List Row) (before : ℕ) (more : List Record) → Makes kept (row ∷ rows) before more
    → (x : Record) × (four_of row ≡ row_of (before + 1) x) × IsGood kept x × (xs : List Record) × Makes (with_record kept x) rows (before + 1) xs
next_is kept row rows before [] makes = absurd (let impossible = makes.0 in cc)
next_is kept row rows before (x ∷ xs) makes =
    let all = makes.0 in
    let one : four_of row ≡ row_of (before + 1) x = cc in
    let others : map four_of rows ≡ rows_after (before + 1) xs = cc in
    (x, one, makes.1.0, xs, (others, makes.1.1))

module _ (first kept : Kept) (rows : List Row) (before : ℕ) (row : Row) (within : before < length rows) (is : row ≡ get_or rows before row)
    (taken : HasTaken first kept rows before) where
  dropped : drop before rows ≡ row ∷ drop (before + 1) rows
  dropped = drop_more rows before row within ∙ ap (λ r. r ∷ drop (before + 1) rows) (sym is)

  pub taken_more : (new : Kept) (x : Record) → four_of row ≡ row_of (before + 1) x → IsGood kept x → new ≡ with_record kept x
      → HasTaken first new rows (before + 1)
  taken_more new x one good now = record {
    left = λ xs makes.
        let some = taken.left xs makes in
        let next = next_is kept row (drop (before + 1) rows) before some.0 (subst (λ rs. Makes kept rs before some.0) dropped some.1) in
        let same : next.0 ≡ x = same_record (before + 1) next.0 x (sym next.1 ∙ one) in
        (next.3, subst (λ k. Makes k (drop (before + 1) rows) (before + 1) next.3) (ap (with_record kept) same ∙ sym now) next.4);
    whole = λ more makes.
        let here : map four_of (row ∷ drop (before + 1) rows) ≡ rows_after before (x ∷ more) = rw (one, makes.0) refl in
        let made : Makes kept (row ∷ drop (before + 1) rows) before (x ∷ more) = (here, (good, subst (λ k. AreGood k more) now makes.1)) in
        let all = taken.whole (x ∷ more) (subst (λ rs. Makes kept rs before (x ∷ more)) (sym dropped) made) in
        (all.0, all.1, ap (λ k. replay_of k more) now ∙ all.2);
  }

  pub never_taken : ((x : Record) → four_of row ≡ row_of (before + 1) x → IsGood kept x → ⊥) → (xs : List Record) → Makes first rows 0 xs → ⊥
  never_taken bad xs makes =
      let some = taken.left xs makes in
      let next = next_is kept row (drop (before + 1) rows) before some.0 (subst (λ rs. Makes kept rs before some.0) dropped some.1) in
      bad next.0 next.1 next.2

pub taken_all : (first kept : Kept) (rows : List Row) (before : ℕ) → length rows ≤ before → HasTaken first kept rows before
    → (xs : List Record) × (map four_of rows ≡ rows_after 0 xs) × AreGood first xs × (kept ≡ replay_of first xs)
taken_all first kept rows before most taken =
    let none : Makes kept (drop before rows) before [] = rw (drop_all before rows most) (refl, tt) in
    let all = taken.whole [] none in
    (all.0, all.1.0, all.1.1, all.2)
