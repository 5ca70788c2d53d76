use Rattle.std.specs.Prelude.{◌≡◌, ◌↔◌, ℕ, List, Option, Some, None, codes, slice_get, IsTrue}
use Rattle.std.specs.Str.Parse.{IsNumeral, digits_value, without_leading_plus}
use Rattle.std.specs.declared.alloc.Global.{Global}
use Rattle.std.specs.declared.string.String.{String}
use Rattle.dali_grammar.specs.Numbers.{blocks_of}
use Rattle.dali_replay.specs.declared.form.Form.{Form}
use Rattle.dali_replay.specs.declared.form.Form.TheVariants.{Json, Text}
use Rattle.dali_threads.specs.declared.setup.Setup.{Setup}
use Rattle.dali_words.specs.Lines.{values_of}
use Rattle.dali_command_line.specs.declared.words.Task.{Task}
use Rattle.dali_command_line.specs.declared.words.Task.TheVariants as task

-- THE VALUES on a command line: the first one of a word, or none
abbrev pub Values : Type 0
Values = List (String Global × String Global)

abbrev pub first_of : List ℕ → Values → Option (List ℕ)
first_of name values = slice_get (values_of name values) 0

-- a flag is there; if it is left out, it is not
abbrev pub Has : List ℕ → Values → Type 0
Has flag values = first_of flag values ≡ Some (codes "true")

-- a number, which must be there, in decimal digits
abbrev pub IsNumber : Option (List ℕ) → ℕ → Type 0
IsNumber None n = ⊥
IsNumber (Some word) n =
    IsNumeral 10 (without_leading_plus word) × (n ≡ digits_value 10 (without_leading_plus word))

-- WHAT `threads` ASKS FOR: each number is that of its word, each flag is there exactly if its word
-- is, and the blocks are those that stand there, in their order
pub record IsSetup (values : Values) (setup : Setup) : Type 0 where
  pub gear : IsNumber (first_of (codes "gear") values) setup.gear
  pub seed : IsNumber (first_of (codes "seed") values) setup.seed
  pub turns : IsNumber (first_of (codes "turns") values) setup.turns
  pub surveys : IsTrue setup.surveys ↔ Has (codes "survey") values
  pub json : IsTrue setup.as_json ↔ Has (codes "json") values
  pub story : IsTrue setup.as_story ↔ Has (codes "story") values
  pub blocks : blocks_of (values_of (codes "blocks") values) ≡ Some setup.blocks.items

-- WHAT `replay` ASKS FOR: texts, if it has no `--json`
abbrev pub IsForm : Values → Form → Type 0
IsForm values Json = Has (codes "json") values
IsForm values Text = Has (codes "json") values → ⊥

-- WHAT A LINE ASKS FOR, by the subcommand
abbrev pub IsTask : List ℕ → Values → Task → Type 0
IsTask name values (task.Replay form) = (name ≡ codes "replay") × IsForm values form
IsTask name values (task.Threads setup) = (name ≡ codes "threads") × IsSetup values setup
