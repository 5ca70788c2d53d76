use Rattle.std.specs.Prelude.{List, [], ◌∷◌, Option, Some, None, if◌then◌else◌, bytes_eq}
use Rattle.std.specs.Prelude.{codes, string_bytes}
use Rattle.std.specs.declared.alloc.Global.{Global}
use Rattle.std.specs.declared.string.String.{String}
use Rattle.dali_replay.specs.declared.form.Form.{Form}
use Rattle.dali_replay.specs.declared.form.Form.TheVariants.{Text, Json}

-- WHAT IS TO BE WRITTEN by the words of the command line, the first of which is the program's name
abbrev pub form_of : List (String Global) → Option Form
form_of [] = Some Text
form_of (name ∷ []) = Some Text
form_of (name ∷ (word ∷ [])) =
    if bytes_eq (string_bytes word) (codes "--json") then Some Json else None
form_of (name ∷ (word ∷ (other ∷ more))) = None
