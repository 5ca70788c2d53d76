use Rattle.std.specs.Prelude.{◌≡◌, ◌≤◌, ◌⊎◌, ℕ, ◌*◌, Bool, true, false, List, [], ◌∷◌, ◌++◌}
use Rattle.std.specs.Prelude.{Option, Some, None, length, string_bytes}
use Rattle.std.specs.declared.alloc.Global.{Global}
use Rattle.std.specs.declared.string.String.{String}
use Rattle.dali_script.specs.declared.block.Block.{Block}
use Rattle.dali_script.specs.Records.{Kept, Has}
use Rattle.dali_commissioning.specs.Runs.{outside}
use Rattle.dali_replacement.specs.declared.come.Come.{Come}
use Rattle.dali_replacement.specs.declared.come.Come.TheVariants.{Nowhere}
use Rattle.dali_replacement.specs.Come.{come_of}
use Rattle.dali_replacement.specs.declared.swap.Lies.{Lies}
use Rattle.dali_replacement.specs.declared.swapping.Swap.{Swap}
use Rattle.dali_replacement.specs.Swap.{AreAt}
use Rattle.dali_replacement.specs.Swapping.{names_of, number_of, swap_text, texts_of, IsWithout}
use Rattle.dali_commission_stores.specs.declared.records.Seen.{Seen}
use Rattle.dali_commission_stores.specs.Calls.{Look}
use Rattle.dali_commission_stores.specs.Calls as look
use Rattle.dali_commission_stores.specs.Settling.{new_at, journal_at, kept_at}

-- NO JOURNAL lies beside the records of a name: it was looked for where they lie
abbrev pub IsBeside : {F : Type 0} → (F → Look → Type 0) → F → List ℕ → List ℕ → Type 0
IsBeside saw x name journal =
    (at : List ℕ)
    × saw x (look.Lies name at)
    × saw x (look.Text (journal_at at) None)
    × (journal ≡ journal_at at)

-- WHERE THE FILE OF A NAME LIES, under a name on one line: a journal names each file on a line
abbrev pub LiesOnLine : {F : Type 0} → (F → Look → Type 0) → F → List ℕ → List ℕ → Type 0
LiesOnLine saw x name at = saw x (look.Lies name at) × IsWithout 10 at

-- RECORDS THAT WERE SEEN: a copy of them was read, they are of the block, and no journal lay beside
-- them
abbrev pub IsSeen : {F : Type 0} → (F → Look → Type 0) → F → List ℕ → Block → Seen → Type 0
IsSeen saw x name block seen =
    (kept : Kept)
    × saw x (look.Read name kept)
    × (outside block kept.reserved ≡ None)
    × IsBeside saw x name (string_bytes seen.journal)
    × saw x (look.Has (string_bytes seen.journal) false)
    × (seen.name.now ≡ name)
    × (seen.block ≡ block)

-- what lies at the place of a file of a swap, and beside it
abbrev pub LiesSo : {F : Type 0} → (F → Look → Type 0) → F → List ℕ → ℕ → Lies → Type 0
LiesSo saw x name number lies =
    saw x (look.Has (journal_at name) lies.journal)
    × saw x (look.Has (new_at name) lies.new)
    × saw x (look.Has name lies.at)
    × saw x (look.Has (kept_at name number) lies.kept)

-- of all these files, behind others
abbrev pub AreLying : {F : Type 0} → (F → Look → Type 0) → F → ℕ → List (String Global) → List Lies
    → List Lies → Type 0
AreLying saw x number [] before after = after ≡ before
AreLying saw x number (name ∷ more) before after =
    (lies : Lies)
    × LiesSo saw x (string_bytes name) number lies
    × AreLying saw x number more (before ++ lies ∷ []) after

-- THE MOMENT of a swap, from the first to the last one, by what lies at the places of its files
abbrev pub IsMoment : {F : Type 0} → (F → Look → Type 0) → Swap → F → ℕ → Type 0
IsMoment saw swap x moment =
    (all : List Lies)
    × AreLying saw x (number_of swap) (names_of swap) [] all
    × (moment ≤ 4 * length all)
    × AreAt (length all) moment 0 all

-- the journal of a swap beside the records of a name: its text was read, and it names that file; or
-- there is none
abbrev pub IsFound : {F : Type 0} → (F → Look → Type 0) → F → List ℕ → Option Swap → Type 0
IsFound saw x name None = saw x (look.Text (journal_at name) None)
IsFound saw x name (Some swap) =
    saw x (look.Text (journal_at name) (Some (swap_text swap))) × Has (texts_of swap) name

-- THE FIRST JOURNAL that lies beside one of some names
abbrev pub IsFirstJournal : {F : Type 0} → (F → Look → Type 0) → F → List (String Global)
    → Option (List ℕ) → Type 0
IsFirstJournal saw x [] at = at ≡ None
IsFirstJournal saw x (name ∷ more) at =
    (saw x (look.Has (journal_at (string_bytes name)) true)
    × (at ≡ Some (journal_at (string_bytes name))))
    ⊎ (saw x (look.Has (journal_at (string_bytes name)) false) × IsFirstJournal saw x more at)

-- HOW FAR THE NEW FILE of a name has come, beside what the old one has
abbrev pub ComeSo : {F : Type 0} → (F → Look → Type 0) → F → List ℕ → Kept → Bool → ℕ → Come
    → Type 0
ComeSo saw x name old is_giver short come =
    (saw x (look.Has (new_at name) false) × (come ≡ Nowhere))
    ⊎ ((new : Kept)
    × saw x (look.Read (new_at name) new)
    × (come_of is_giver short new old ≡ Some come))
