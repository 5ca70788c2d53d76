use Rattle.std.specs.Prelude.{ℕ, List, string_bytes}
use Rattle.dali_commission_program.specs.declared.writing.Text.{Text}

abbrev pub text_of : Text → List ℕ
text_of it = string_bytes it.text

-- A TEXT IS WRITTEN: no contract sees what a system does with it, so only who writes it may tell
unfoldable pub IsWritten : {S : Type 0} → S → List ℕ → Type 0
IsWritten on text = Unit {0}
