use Rattle.std.specs.Prelude.{◌≡◌, ℕ, ◌==◌, ◌<◌, ◌≤◌, ◌↔◌, ◌⊎◌, Bool, List, [], ◌∷◌, ◌++◌, Option}
use Rattle.std.specs.Prelude.{Some, None, codes, slice_get, IsTrue, true, false, length, ◌≢◌}
use Rattle.std.specs.Prelude.{string_bytes, ◌&&◌, nat_le}
use Rattle.std.specs.List.{before_first, after_first, list_any}
use Rattle.std.specs.Option.{option_map_or}
use Rattle.std.specs.Str.Parse.{IsNumeral, digits_value, without_leading_plus}
use Rattle.std.specs.declared.alloc.Global.{Global}
use Rattle.std.specs.declared.string.String.{String}
use Rattle.dali_script.specs.declared.block.Block.{Block}
use Rattle.dali_words.specs.Lines.{values_of}
use Rattle.dali_commission_tasks.specs.declared.tasks.Asked.{Asked}
use Rattle.dali_commission_tasks.specs.declared.tasks.Mend.{Mend}
use Rattle.dali_commission_tasks.specs.declared.tasks.Replacement.{Replacement}
use Rattle.dali_commission_tasks.specs.declared.tasks.Setup.{Setup}
use Rattle.dali_commission_tasks.specs.declared.tasks.Start.{Start}
use Rattle.dali_commission_tasks.specs.declared.tasks.Start.TheVariants.{Survey, Fresh}
use Rattle.dali_commission_tasks.specs.declared.tasks.TableForm.{TableForm}
use Rattle.dali_commission_tasks.specs.declared.tasks.TableForm.TheVariants.{Text, Csv, Json}
use Rattle.dali_commission_tasks.specs.declared.tasks.Task.{Task}
use Rattle.dali_commission_tasks.specs.declared.tasks.Task.TheVariants as task

-- THE VALUES on a command line: the first one of a word, or none, and whether a flag is there
abbrev pub Values : Type 0
Values = List (String Global × String Global)

abbrev pub first_of : List ℕ → Values → Option (List ℕ)
first_of name values = slice_get (values_of name values) 0

abbrev pub value_of : List ℕ → Values → List ℕ
value_of name values = option_map_or (λ it. it) (first_of name values) []

abbrev pub Has : List ℕ → Values → Type 0
Has flag values = first_of flag values ≡ Some (codes "true")

-- A SHORT ADDRESS as a word spells it: a decimal number below 64
abbrev pub IsShort : List ℕ → ℕ → Type 0
IsShort word a =
    IsNumeral 10 (without_leading_plus word)
    × (a ≡ digits_value 10 (without_leading_plus word))
    × (a < 64)

-- A BLOCK as 0-63: two short addresses around a dash, the first one no greater
abbrev pub is_dash : ℕ → Bool
is_dash c = c == 45

abbrev pub IsBlock : List ℕ → Block → Type 0
IsBlock word block =
    IsShort (before_first is_dash word) block.first
    × IsShort (after_first is_dash word) block.last
    × (block.first ≤ block.last)

-- what words spell, in their order, behind what was there before
abbrev pub AddsSpelled : {T : Type 0} → (List ℕ → T → Type 0) → List T → List (List ℕ) → List T
    → Type 0
AddsSpelled spells xs [] ys = ys ≡ xs
AddsSpelled spells xs (word ∷ words) ys =
    (x : _) × spells word x × AddsSpelled spells (xs ++ x ∷ []) words ys

-- whether two blocks have a short address in common
abbrev pub meets : Block → Block → Bool
meets own other = nat_le own.first other.last && nat_le other.first own.last

-- WHAT `run` ASKS FOR, beside the blocks of others: a block that has no address in common with
-- another one, and how it starts
abbrev pub IsStart : Values → Start → Type 0
IsStart values Survey =
    (first_of (codes "start") values ≡ None)
    ⊎ (first_of (codes "start") values ≡ Some (codes "survey"))
IsStart values Fresh = first_of (codes "start") values ≡ Some (codes "fresh")

abbrev pub IsSetup : Values → List Block → Setup → Type 0
IsSetup values others setup =
    IsBlock (value_of (codes "block") values) setup.block
    × (list_any (meets setup.block) others ≡ false)
    × IsStart values setup.start
    × (IsTrue setup.mends ↔ Has (codes "mend") values)

-- WHAT `table` ASKS FOR
abbrev pub IsForm : Values → TableForm → Type 0
IsForm values Csv = Has (codes "csv") values
IsForm values Json = Has (codes "json") values
IsForm values Text = (Has (codes "csv") values → ⊥) × (Has (codes "json") values → ⊥)

-- WHAT `replace` ASKS FOR, with so many files of records: one file has its block named, or is the
-- only one; several have none
abbrev pub IsOnlyBlock : Values → ℕ → Option (List ℕ) → Block → Type 0
IsOnlyBlock values files (Some word) block = (files ≡ 1) × IsBlock word block
IsOnlyBlock values files None block =
    (block.first ≡ 0)
    × (block.last ≡ 63)
    × (Has (codes "only") values → files ≤ 1)
    × ((Has (codes "only") values → ⊥) → files ≢ 1)

abbrev pub IsReplacement : Values → ℕ → Replacement → Type 0
IsReplacement values files wanted =
    IsShort (value_of (codes "address") values) wanted.short
    × AddsSpelled IsShort [] (values_of (codes "missing") values) wanted.missing.items
    × IsOnlyBlock values files (first_of (codes "block") values) wanted.block
    × (IsTrue wanted.is_again ↔ Has (codes "again") values)

-- WHAT `mend` ASKS FOR: all words but the last one are short addresses, behind those before, and
-- the last one is the block
abbrev pub AreNamed : List ℕ → List (String Global) → List ℕ → Block → Type 0
AreNamed before [] after block = ⊥
AreNamed before (last ∷ []) after block = (after ≡ before) × IsBlock (string_bytes last) block
AreNamed before (word ∷ next ∷ more) after block =
    (a : ℕ)
    × IsShort (string_bytes word) a
    × AreNamed (before ++ a ∷ []) (next ∷ more) after block

abbrev pub IsMend : Values → List Block → Mend → Type 0
IsMend values others wanted =
    ((words : List (String Global))
    × AddsSpelled (λ word it. string_bytes it ≡ word) [] (values_of (codes "words") values) words
    × AreNamed [] words wanted.named.items wanted.block)
    × AddsSpelled IsShort [] (values_of (codes "missing") values) wanted.missing.items
    × (list_any (meets wanted.block) others ≡ false)

-- WHAT IS TO BE DONE, by the subcommand
abbrev pub IsTask : List ℕ → Values → List Block → ℕ → Task → Type 0
IsTask name values others files (task.Run setup) =
    (name ≡ codes "run") × IsSetup values others setup
IsTask name values others files task.Check = name ≡ codes "check"
IsTask name values others files (task.Identify a) =
    (name ≡ codes "identify") × IsShort (value_of (codes "address") values) a
IsTask name values others files (task.Table form) = (name ≡ codes "table") × IsForm values form
IsTask name values others files (task.Replace wanted) =
    (name ≡ codes "replace")
    × IsReplacement values files wanted
    × (Has (codes "accept") values → ⊥)
IsTask name values others files (task.Accept wanted) =
    (name ≡ codes "replace")
    × IsReplacement values files wanted
    × Has (codes "accept") values
IsTask name values others files (task.Mend wanted) =
    (name ≡ codes "mend") × IsMend values others wanted
IsTask name values others files task.Clear = (name ≡ codes "clear") × Has (codes "yes") values

-- WHAT A LINE ASKS FOR: a table has its form by `--json`, and all others write an object beside
abbrev pub is_table : Task → Bool
is_table (task.Table form) = true
is_table _ = false

abbrev pub IsAsked : List ℕ → Values → Asked → Type 0
IsAsked name values asked =
    AddsSpelled (λ word it. string_bytes it ≡ word) [] (values_of (codes "records") values)
    asked.records.items
    × AddsSpelled IsBlock [] (values_of (codes "others") values) asked.others.items
    × IsTask name values asked.others.items (length asked.records.items) asked.task
    × (IsTrue asked.as_json ↔ (Has (codes "json") values × (is_table asked.task ≡ false)))
    × (IsTrue asked.is_quiet ↔ Has (codes "quiet") values)
