use Rattle.std.proofs.Common.{◌≡◌, ◌<◌, ◌↔◌, List, [], ◌∷◌, ◌++◌, Result, Ok, Err, refl, sym, ap, subst, ◌∙◌}
use Rattle.std.specs.Prelude.{IsOk, OnOk, OnErr}
use Rattle.dali_script.specs.declared.block.Block.{Block}
use Rattle.dali_script.specs.declared.records.Record.{Record}
use Rattle.dali_script.specs.Records.{Kept, IsKept, MayAdd, Fits, address_of, without_records, with_record}
use Rattle.dali_script.proofs.Lists.{kept_none, kept_more, block_stays}
use Rattle.dali_reserve.specs.Store.{replay_of, IsGood, AreGood, IsReplay, HasRecords}

-- a list with one more at its end
pub replayed_more : (k : Kept) (xs : List Record) (x : Record) → replay_of k (xs ++ x ∷ []) ≡ with_record (replay_of k xs) x
replayed_more k [] x = refl
replayed_more k (y ∷ xs) x = replayed_more (with_record k y) xs x

pub good_more : (k : Kept) (xs : List Record) (x : Record) → AreGood k xs → IsGood (replay_of k xs) x → AreGood k (xs ++ x ∷ [])
good_more k [] x all one = (one, tt)
good_more k (y ∷ xs) x all one = (all.0, good_more (with_record k y) xs x all.1 one)

pub good_less : (k : Kept) (xs : List Record) (x : Record) → AreGood k (xs ++ x ∷ []) → AreGood k xs × IsGood (replay_of k xs) x
good_less k [] x all = (tt, all.0)
good_less k (y ∷ xs) x all = let rest = good_less (with_record k y) xs x all.1 in ((all.0, rest.0), rest.1)

pub replay_none : (b : Block) → IsReplay b [] (without_records b)
replay_none b = record { good = tt; value = refl }

pub replay_more : (b : Block) (xs : List Record) (k : Kept) (x : Record) → IsReplay b xs k → IsGood k x → IsReplay b (xs ++ x ∷ []) (with_record k x)
replay_more b xs k x r one = record {
  good = good_more (without_records b) xs x r.good (subst (λ j. IsGood j x) r.value one);
  value = ap (λ j. with_record j x) r.value ∙ sym (replayed_more (without_records b) xs x);
}

pub replay_less : (b : Block) (xs : List Record) (k : Kept) (x : Record) → IsReplay b (xs ++ x ∷ []) k
    → (before : Kept) × IsReplay b xs before × IsGood before x × (k ≡ with_record before x)
replay_less b xs k x r =
    let parts = good_less (without_records b) xs x r.good in
    (replay_of (without_records b) xs, record { good = parts.0; value = refl }, parts.1, r.value ∙ replayed_more (without_records b) xs x)

pub replay_one : (b : Block) (xs : List Record) (j k : Kept) → IsReplay b xs j → IsReplay b xs k → j ≡ k
replay_one b xs j k r s = r.value ∙ sym s.value

-- the block stays
pub block_replayed : (k : Kept) (xs : List Record) → (replay_of k xs).block ≡ k.block
block_replayed k [] = refl
block_replayed k (x ∷ xs) = block_replayed (with_record k x) xs ∙ block_stays k x

pub replay_block : (b : Block) (xs : List Record) (k : Kept) → IsReplay b xs k → k.block ≡ b
replay_block b xs k r = ap (λ (j : Kept). j.block) r.value ∙ block_replayed (without_records b) xs

-- records stay kept
pub kept_replayed : (k : Kept) (xs : List Record) → IsKept k → AreGood k xs → IsKept (replay_of k xs)
kept_replayed k [] is all = is
kept_replayed k (x ∷ xs) is all = kept_replayed (with_record k x) xs (kept_more k x is all.0.fits all.0.short all.0.may) all.1

pub replay_kept : (b : Block) (xs : List Record) (k : Kept) → IsReplay b xs k → IsKept k
replay_kept b xs k r = subst IsKept (sym r.value) (kept_replayed (without_records b) xs (kept_none b) r.good)

-- what is kept after a commit that adds its record, and after any
pub replay_after : (old new : Kept) (x : Record) → address_of x < 64 → Fits old.block x → MayAdd old x → new ≡ with_record old x
    → (xs : List Record) → IsReplay old.block xs old → IsReplay new.block (xs ++ x ∷ []) new
replay_after old new x short fits may ok xs r =
    let more : IsReplay old.block (xs ++ x ∷ []) (with_record old x) = replay_more old.block xs old x r (record { short = short; fits = fits; may = may }) in
    let there : IsReplay old.block (xs ++ x ∷ []) new = subst (λ k. IsReplay old.block (xs ++ x ∷ []) k) (sym ok) more in
    subst (λ b. IsReplay b (xs ++ x ∷ []) new) (sym (replay_block old.block (xs ++ x ∷ []) new there)) there

pub records_after : {E : Type 0} (old new : Kept) (x : Record) (r : Result (Unit {0}) E) → address_of x < 64 → Fits old.block x → (IsOk r ↔ MayAdd old x)
    → OnOk r (new ≡ with_record old x) → OnErr r (new ≡ old) → HasRecords old → HasRecords new
records_after old new x (Err e) short fits may ok err has = subst HasRecords (sym err) has
records_after old new x (Ok u) short fits may ok err has = (has.0 ++ x ∷ [], replay_after old new x short fits (may.0 refl) ok has.0 has.1)

pub replay_ok : {E : Type 0} (old new : Kept) (x : Record) (r : Result (Unit {0}) E) (u : Unit {0}) → r ≡ Ok u → address_of x < 64 → Fits old.block x
    → (IsOk r ↔ MayAdd old x)
    → OnOk r (new ≡ with_record old x) → (xs : List Record) → IsReplay old.block xs old → IsReplay new.block (xs ++ x ∷ []) new
replay_ok old new x (Err e) u is short fits may ok xs held = cc
replay_ok old new x (Ok v) u is short fits may ok xs held = replay_after old new x short fits (may.0 refl) ok xs held
