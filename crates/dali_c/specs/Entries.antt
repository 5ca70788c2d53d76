use Rattle.std.specs.Prelude.{◌≡◌, ℕ, ◌≤◌, List, map, take, Option, Some, option_map}
use Rattle.dali_script.specs.declared.trace.Entry.{Entry}
use Rattle.dali_script.specs.Scripts.{IsTransaction}
use Rattle.dali_c.specs.Codes.{answer_of}
use Rattle.dali_c.specs.declared.entries.PlainEntry.{PlainEntry}

-- struct dali_entry
abbrev pub entry_of : PlainEntry → Option Entry
entry_of e =
    option_map
    (λ h. record {
      frame = record { address_byte = e.address_byte; opcode_byte = e.opcode_byte };
      heard = h;
    })
    (answer_of e.heard e.byte)

-- each of them is one, and they are these
abbrev pub AreEntries : List PlainEntry → List Entry → Type 0
AreEntries plain entries = map (λ e. entry_of e) plain ≡ map (λ e. Some e) entries

-- the frames of a running transaction: as many of the first as there are
pub record IsPlainTrace (plain : List PlainEntry) (count : ℕ) (t : List Entry) : Type 0 where
  pub room : count ≤ 8
  pub entries : AreEntries (take count plain) t
  pub sent : IsTransaction t

abbrev pub no_entry : PlainEntry
no_entry = record { address_byte = 0; opcode_byte = 0; heard = 0; byte = 0 }
