use Rattle.std.specs.Prelude.{◌≡◌, ℕ, ◌==◌, List, Option, Some, None, codes, if◌then◌else◌}
use Rattle.dali_script.specs.declared.records.Record.{Record}
use Rattle.dali_script.specs.declared.records.Record.TheVariants.{Reserve, Enrol, Release}
use Rattle.dali_script.specs.declared.orders.End.{End}
use Rattle.dali_script.specs.declared.orders.End.TheVariants.{AllFound, BlockFull, GaveUp}
use Rattle.dali_script.specs.declared.orders.Fault.{Fault}
use Rattle.dali_script.specs.declared.orders.Fault.TheVariants.{Conflict, Store}
use Rattle.dali_script.specs.Records.{address_of, random_of}

-- THE NAMES AND CODES of records, ends and faults, as reports and pages, tables of stores, and
-- structs for C have them. They never change.

-- ---------------------------------------------------------------- records

abbrev pub record_name : Record → List ℕ
record_name (Reserve a r) = codes "reserve"
record_name (Enrol a r) = codes "enrol"
record_name (Release a r) = codes "release"

abbrev pub record_code : Record → ℕ
record_code (Reserve a r) = 1
record_code (Enrol a r) = 2
record_code (Release a r) = 3

-- the record with this code, short address and random address
abbrev pub record_by : ℕ → ℕ → ℕ → Option Record
record_by code a r =
    if code == 1 then Some (Reserve a r) else
    (if code == 2 then Some (Enrol a r) else
    (if code == 3 then Some (Release a r) else None))

-- ---------------------------------------------------------------- ends and faults

abbrev pub end_name : End → List ℕ
end_name AllFound = codes "all-found"
end_name BlockFull = codes "block-full"
end_name GaveUp = codes "gave-up"

abbrev pub end_code : End → ℕ
end_code AllFound = 1
end_code BlockFull = 2
end_code GaveUp = 3

abbrev pub end_by : ℕ → Option End
end_by code =
    if code == 1 then Some AllFound else
    (if code == 2 then Some BlockFull else
    (if code == 3 then Some GaveUp else None))

abbrev pub fault_name : Fault → List ℕ
fault_name Conflict = codes "conflict"
fault_name Store = codes "store"

abbrev pub fault_code : Fault → ℕ
fault_code Conflict = 1
fault_code Store = 2

abbrev pub fault_by : ℕ → Option Fault
fault_by code =
    if code == 1 then Some Conflict else
    (if code == 2 then Some Store else None)

-- ---------------------------------------------------------------- there and back

-- the record has this code and these addresses
abbrev pub IsRecordOf : ℕ → ℕ → ℕ → Record → Type 0
IsRecordOf code a r x = (record_code x ≡ code) × (address_of x ≡ a) × (random_of x ≡ r)

-- WHAT A CODE IS READ AS has that code, and what has it is read so.
pub record AreReadBack : Type 0 where
  pub record_there : (x : Record) → record_by (record_code x) (address_of x) (random_of x) ≡ Some x
  pub record_back :
      (code a r : ℕ) (x : Record) → record_by code a r ≡ Some x → IsRecordOf code a r x
  pub end_there : (e : End) → end_by (end_code e) ≡ Some e
  pub end_back : (code : ℕ) (e : End) → end_by code ≡ Some e → end_code e ≡ code
  pub fault_there : (w : Fault) → fault_by (fault_code w) ≡ Some w
  pub fault_back : (code : ℕ) (w : Fault) → fault_by code ≡ Some w → fault_code w ≡ code
