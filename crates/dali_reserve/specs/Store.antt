use Rattle.std.specs.Prelude.{◌≡◌, ◌<◌, List, [], ◌∷◌}
use Rattle.dali_script.specs.declared.block.Block.{Block}
use Rattle.dali_script.specs.declared.records.Record.{Record}
use Rattle.dali_script.specs.Records.{Kept, without_records, with_record, Fits, MayAdd, address_of}

-- THE REPLAY of a list of records, oldest first: what is kept after them.
abbrev pub replay_of : Kept → List Record → Kept
replay_of k [] = k
replay_of k (x ∷ xs) = replay_of (with_record k x) xs

-- A record that could be committed after those that left this: it fits the block, and may be added.
pub record IsGood (k : Kept) (x : Record) : Type 0 where
  pub short : address_of x < 64
  pub fits : Fits k.block x
  pub may : MayAdd k x

-- each record may be added to what the ones before it leave
abbrev pub AreGood : Kept → List Record → Type 0
AreGood k [] = Unit {0}
AreGood k (x ∷ xs) = IsGood k x × AreGood (with_record k x) xs

-- A store of this block that holds these records keeps this: each could be committed, and this is
-- their replay.
pub record IsReplay (b : Block) (xs : List Record) (k : Kept) : Type 0 where
  pub good : AreGood (without_records b) xs
  pub value : k ≡ replay_of (without_records b) xs

-- some records have this replay
abbrev pub HasRecords : Kept → Type 0
HasRecords k = (xs : List Record) × IsReplay k.block xs k
