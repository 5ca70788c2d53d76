-- What is known of the list that a database holds.
use Rattle.std.proofs.Common.{◌≡◌, ℕ, ◌+◌, Bool, false, List, [], ◌∷◌, ◌++◌, map, length, ◌<◌, refl, sym, ap, subst, ◌∙◌, arith, length-append}
use Rattle.std.proofs.lemmas.List.{length-map}
use Rattle.sqlite.specs.{Order.Row, State.State}
use Rattle.dali_script.specs.Records.{Kept, without_records, with_record, Fits, MayAdd, address_of}
use Rattle.dali_script.specs.declared.{block.Block.Block, records.Record.Record}
use Rattle.dali_reserve.{specs.Store.replay_of, specs.Store.AreGood, specs.Store.IsReplay, proofs.Replays.block_replayed, proofs.Replays.replay_after}
use Rattle.dali_sqlite.{specs.Rows.rows_after, specs.Rows.four_of, specs.Stored.Holds, specs.Stored.IsKnown, specs.Stored.IsStored, proofs.Ordered.one_list}

-- ---- from the rows that were read

length_rows : (n : ℕ) (xs : List Record) → length (rows_after n xs) ≡ length xs
length_rows n [] = refl
length_rows n (x ∷ xs) = omega (arith, length_rows (n + 1) xs)

pub counted : (rows : List Row) (xs : List Record) → map four_of rows ≡ rows_after 0 xs → length rows ≡ length xs
counted rows xs is = sym (length-map rows four_of) ∙ ap length is ∙ length_rows 0 xs

pub replayed_block : (block : Block) (first kept : Kept) (xs : List Record) → first ≡ without_records block → kept ≡ replay_of first xs → kept.block ≡ block
replayed_block block first kept xs none is = ap (λ (k : Kept). k.block) is ∙ block_replayed first xs ∙ ap (λ (k : Kept). k.block) none

pub replayed : (block : Block) (first kept : Kept) (xs : List Record) → first ≡ without_records block → AreGood first xs → kept ≡ replay_of first xs
    → IsReplay kept.block xs kept
replayed block first kept xs none good is =
    let same : first ≡ without_records kept.block = none ∙ ap without_records (sym (replayed_block block first kept xs none is)) in
    record { good = subst (λ k. AreGood k xs) same good; value = is ∙ ap (λ k. replay_of k xs) same }

-- ---- of the one list that is held

pub stored : (s : State) (kept : Kept) (count : ℕ) (must_read : Bool) (xs : List Record) → Holds s xs → (must_read ≡ false → IsKnown kept count xs)
    → IsStored s kept count must_read
stored s kept count must_read xs held known = record {
  records = xs;
  held = held;
  known = λ read ys also. subst (IsKnown kept count) (one_list s.now.trees xs ys held.rows also.rows) (known read);
}

-- the same list is held, and nothing else is known of it
pub still_stored : (old new : State) (kept : Kept) (count : ℕ) (must_read : Bool) → ((xs : List Record) → Holds old xs → Holds new xs)
    → IsStored old kept count must_read → IsStored new kept count must_read
still_stored old new kept count must_read same sound =
    stored new kept count must_read sound.records (same sound.records sound.held) (λ read. sound.known read sound.records sound.held)

-- one record more is held and known
pub more_stored : (old new : State) (kept now : Kept) (count next : ℕ) (x : Record) → address_of x < 64 → Fits kept.block x → MayAdd kept x
    → now ≡ with_record kept x → next ≡ count + 1
    → ((xs : List Record) → count ≡ length xs → Holds old xs → Holds new (xs ++ x ∷ [])) → IsStored old kept count false → IsStored new now next false
more_stored old new kept now count next x short fits may is more adds sound =
    let xs = sound.records in
    let known = sound.known refl xs sound.held in
    let longer : next ≡ length (xs ++ x ∷ []) = omega (arith, length-append xs (x ∷ []), known.1) in
    stored new now next false (xs ++ x ∷ []) (adds xs known.1 sound.held) (λ _. (replay_after kept now x short fits may is xs known.0, longer))
