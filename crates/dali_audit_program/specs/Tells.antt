use Rattle.std.specs.Prelude.{◌≡◌, ℕ, Bool, true, false, List, Option, option_map, Ok}
use Rattle.std.specs.Io.KnownBytes.{Appends}
use Rattle.dali_capture.specs.declared.item.Item.{Item}
use Rattle.dali_capture.specs.Captures.{capture_of}
use Rattle.dali_capture.specs.Spelled.{log_text}
use Rattle.dali_audit.specs.declared.bench.Bench.{Bench}
use Rattle.dali_audit.specs.declared.judging.Judgement.{Judgement}
use Rattle.dali_audit.specs.Bench.{IsBenchOf}
use Rattle.dali_audit.specs.Judging.{IsJudgementOf, is_clean, lines_text, json_text}
use Rattle.dali_audit.specs.Script.{script_text}
use Rattle.dali_audit_program.specs.declared.asked.Asked.{Asked}
use Rattle.dali_audit_program.specs.declared.asked.Form.{Form}
use Rattle.dali_audit_program.specs.declared.asked.Form.TheVariants as form

-- A CAPTURE IS JUDGED: its judgement was written, in lines or as JSON, and whether it is clean is
-- what the judgement says
abbrev pub judgement_text : Bool → Judgement → List ℕ
judgement_text false j = lines_text j
judgement_text true j = json_text j

abbrev pub IsJudged : Bool → List Item → Option (List ℕ) → Option (List ℕ) → Bool → Type 0
IsJudged is_json items old new clean =
    (j : Judgement)
    × IsJudgementOf j items
    × Appends old new (judgement_text is_json j)
    × (clean ≡ is_clean j.audit.findings.items j.other_answer)

-- a script of its bench was written
abbrev pub HasScript : List Item → Option (List ℕ) → Option (List ℕ) → Type 0
HasScript items old new = (b : Bench) × IsBenchOf b items × Appends old new (script_text b)

-- WHAT IS TOLD OF A CAPTURE, by what is asked for. A log and a script are never unclean.
abbrev pub IsTold : Form → List Item → Option (List ℕ) → Option (List ℕ) → Bool → Type 0
IsTold form.Lines items old new clean = IsJudged false items old new clean
IsTold form.Json items old new clean = IsJudged true items old new clean
IsTold form.Items items old new clean = Appends old new (log_text items) × (clean ≡ true)
IsTold form.Bench items old new clean = HasScript items old new × (clean ≡ true)

-- it is told of all items that a text has, read as it was asked
abbrev pub Tells : Asked → List ℕ → Option (List ℕ) → Option (List ℕ) → Bool → Type 0
Tells asked text old new clean =
    (items : List Item)
    × (capture_of (option_map (λ w. w.now) asked.wire) asked.is_inverted text ≡ Ok items)
    × IsTold asked.form items old new clean
