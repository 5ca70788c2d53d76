use Rattle.std.specs.Prelude.{◌≡◌, ℕ, ◌<◌, Bool, true, false, List, [], ◌∷◌, ◌++◌, length, codes}
use Rattle.std.specs.Prelude.{decimal, Option, Some, None, option_map, slice_get}
use Rattle.dali_capture.specs.declared.item.Item.{Item}
use Rattle.dali_audit.specs.declared.findings.Finding.{Finding}
use Rattle.dali_audit.specs.declared.comparing.Step.{Step}
use Rattle.dali_audit.specs.declared.comparing.Outcome.{Outcome}
use Rattle.dali_audit.specs.declared.comparing.Outcome.TheVariants.{Agrees, Differs, Spent}
use Rattle.dali_audit.specs.declared.bench.Bench.{Bench}
use Rattle.dali_audit.specs.declared.judging.Judgement.{Judgement}
use Rattle.dali_audit.specs.Findings.{findings_in, known_in}
use Rattle.dali_audit.specs.Comparing.{compared}
use Rattle.dali_audit.specs.Places.{places_in}
use Rattle.dali_audit.specs.Bench.{IsBenchOf, gear_at_first}
use Rattle.dali_audit.specs.Report.{findings_text, table_text, json_findings, json_table}

-- WHEN SOMETHING WAS HEARD FOR THE FIRST TIME that the gear of a bench did not answer
abbrev pub step_time : ℕ → List Step → Option ℕ
step_time k ss = option_map (λ s. s.at) (slice_get ss k)

abbrev pub other_by : Outcome → List Step → Option ℕ
other_by Agrees ss = None
other_by (Differs k) ss = step_time k ss
other_by (Spent k) ss = step_time k ss

abbrev pub other_of : Bench → Option ℕ
other_of b =
    other_by (compared 0 b.steps.items b.draws (gear_at_first b.places.items)) b.steps.items

abbrev pub other_in : Option Bench → Option ℕ
other_in None = None
other_in (Some b) = other_of b

-- THE JUDGEMENT OF A CAPTURE: its findings, what is known after it, and the bench that takes its
-- frames; there is none if the capture reveals more than 128 gear
abbrev pub IsBenchIn : Option Bench → List Item → Type 0
IsBenchIn None items = 128 < length (places_in items)
IsBenchIn (Some b) items = IsBenchOf b items

pub record IsJudgementOf (j : Judgement) (items : List Item) : Type 0 where
  pub findings : j.audit.findings.items ≡ findings_in items
  pub known : j.audit.known ≡ known_in items
  pub bench : IsBenchIn j.bench items
  pub other : j.other_answer ≡ other_in j.bench

-- no rule was broken, and nothing else was heard
abbrev pub is_clean : List Finding → Option ℕ → Bool
is_clean [] None = true
is_clean [] (Some at) = false
is_clean (f ∷ fs) other = false

-- IT AS LINES: a head, the findings, who has which short address
abbrev pub head_text : Option Bench → List ℕ
head_text None = codes "played none: more than 128 gear\n"
head_text (Some b) =
    codes "played "
    ++ (decimal (length b.places.items)
    ++ (codes " gear, " ++ (decimal b.unknown ++ codes " of them not to the end\n")))

abbrev pub other_text : Option ℕ → List ℕ
other_text None = []
other_text (Some at) = decimal at ++ codes " other-answer\n"

abbrev pub lines_text : Judgement → List ℕ
lines_text j =
    head_text j.bench
    ++ (findings_text j.audit.findings.items
    ++ (other_text j.other_answer ++ table_text 0 j.audit.known.table))

-- AND AS JSON
abbrev pub json_head : Option Bench → List ℕ
json_head None = codes "{\"played\":null,\"unknown\":null,\"findings\":["
json_head (Some b) =
    codes "{\"played\":"
    ++ (decimal (length b.places.items)
    ++ (codes ",\"unknown\":" ++ (decimal b.unknown ++ codes ",\"findings\":[")))

abbrev pub json_other : Option ℕ → List ℕ
json_other None = codes "],\"other_answer\":null,\"gear\":["
json_other (Some at) = codes "],\"other_answer\":" ++ (decimal at ++ codes ",\"gear\":[")

abbrev pub json_text : Judgement → List ℕ
json_text j =
    json_head j.bench
    ++ (json_findings 0 j.audit.findings.items
    ++ (json_other j.other_answer ++ (json_table 0 j.audit.known.table ++ codes "]}\n")))
