use Rattle.std.specs.Prelude.{◌≡◌, ◌<◌, ◌≤◌, length}
use Rattle.dali_script.specs.Records.{Kept, IsKept}
use Rattle.dali_script.specs.Pairs.{pairs_in, IsCleared}
use Rattle.dali_c.specs.declared.records.PlainRecords.{PlainRecords}

-- what struct dali_records stands for
abbrev pub kept_of : PlainRecords → Kept
kept_of r = record {
  block = record { first = r.first; last = r.last };
  reserved = pairs_in r.reserved;
  enrolled = pairs_in r.enrolled;
}

-- IT IS A CONTROLLER'S RECORDS: its numbers are in their ranges, and it may be kept.
pub record AreRecords (r : PlainRecords) : Type 0 where
  pub first : r.first < 64
  pub last : r.last < 64
  pub reserved : r.reserved.count ≤ 64
  pub enrolled : r.enrolled.count ≤ 64
  pub kept : IsKept (kept_of r)

-- its lists have room for a pair of each short address, as in C
pub record HasRoom (r : PlainRecords) : Type 0 where
  pub reserved : length r.reserved.pairs ≡ 64
  pub enrolled : length r.enrolled.pairs ≡ 64

-- EACH PLACE BEHIND ITS PAIRS has bytes 0 alone
pub record AreCleared (r : PlainRecords) : Type 0 where
  pub reserved : IsCleared r.reserved
  pub enrolled : IsCleared r.enrolled

-- so records of one controller have one struct, however they came about
abbrev pub RecordsHaveTheirBytes : Type 0
RecordsHaveTheirBytes =
    (r s : PlainRecords)
    → AreRecords r
    → AreRecords s
    → HasRoom r
    → HasRoom s
    → AreCleared r
    → AreCleared s
    → kept_of r ≡ kept_of s
    → r ≡ s
