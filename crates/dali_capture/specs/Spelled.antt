use Rattle.std.specs.Prelude.{◌≡◌, ℕ, ◌+◌, ◌<◌, ◌≤◌, ◌^◌, List, [], ◌∷◌, ◌++◌, Bool, codes, decimal}
use Rattle.std.specs.Prelude.{Option, option_to_list, if◌then◌else◌}
use Rattle.dali_capture.specs.declared.item.Item.{Item}
use Rattle.dali_capture.specs.declared.item.Heard.{Heard}
use Rattle.dali_capture.specs.declared.item.Heard.TheVariants.{Forward, Backward, Device, Damaged}
use Rattle.dali_capture.specs.declared.ear.Ear.{Ear}
use Rattle.dali_capture.specs.Items.{length_of, item_text}
use Rattle.dali_capture.specs.Ears.{is_same, ear_after_level, level_told}
use Rattle.dali_capture.specs.Dumps.{told_at_end}

-- A LOG OF ITEMS, each in a line
abbrev pub log_text : List Item → List ℕ
log_text [] = []
log_text (item ∷ items) = item_text item ++ (10 ∷ log_text items)

-- bytes are bytes
abbrev pub AreBytes : Heard → Type 0
AreBytes (Forward f) = (f.address_byte < 256) × (f.opcode_byte < 256)
AreBytes (Backward byte) = byte < 256
AreBytes Device = Unit {0}
AreBytes Damaged = Unit {0}

-- items that a log may have: none begins before the one before, and each takes as long as its frame
abbrev pub AreLogged : ℕ → List Item → Type 0
AreLogged last [] = Unit {0}
AreLogged last (item ∷ items) =
    (last ≤ item.at) × (item.until ≡ item.at + length_of item.what) × (item.until < 2 ^ 64)
    × AreBytes item.what × AreLogged item.at items

-- A DUMP OF LEVELS of one wire, true while it is 1, each since a time in µs
abbrev pub head_text : List ℕ
head_text = codes "$timescale 1 us $end $var wire 1 ! D0 $end $enddefinitions $end "

abbrev pub level_text : ℕ × Bool → List ℕ
level_text level = codes "#" ++ (decimal level.0 ++ codes (if level.1 then " 1! " else " 0! "))

abbrev pub levels_text : List (ℕ × Bool) → List ℕ
levels_text [] = []
levels_text (level ∷ levels) = level_text level ++ levels_text levels

abbrev pub dump_text : List (ℕ × Bool) → List ℕ
dump_text levels = head_text ++ levels_text levels

-- times that a dump may have
abbrev pub AreTimes : ℕ → List (ℕ × Bool) → Type 0
AreTimes last [] = Unit {0}
AreTimes last (level ∷ levels) =
    (last ≤ level.0) × (level.0 < 2 ^ 64) × AreTimes level.0 levels

-- what is heard of levels, the last of which is known at its own time
abbrev pub heard_of_levels : Option Ear → Bool → ℕ → List (ℕ × Bool) → List Item
heard_of_levels ear inverted now [] = option_to_list (told_at_end ear now)
heard_of_levels ear inverted now (level ∷ levels) =
    option_to_list (level_told ear (is_same level.1 inverted) level.0)
    ++ heard_of_levels
    (ear_after_level ear (is_same level.1 inverted) level.0)
    inverted
    level.0
    levels
