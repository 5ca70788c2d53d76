use Rattle.std.specs.Prelude.{ℕ, zero, suc, ◌+◌, List, [], ◌∷◌, ◌++◌, codes, decimal}
use Rattle.std.specs.Prelude.{Option, Some, None}
use Rattle.dali_frame.specs.Hex.{random_text}
use Rattle.dali_audit.specs.declared.findings.Finding.{Finding}
use Rattle.dali_audit.specs.declared.holders.Holder.{Holder}
use Rattle.dali_audit.specs.declared.holders.Holder.TheVariants as holder
use Rattle.dali_audit.specs.Findings.{kind_name}
use Rattle.dali_audit.specs.Holders.{random_of}

-- A FINDING AS A LINE: its time in µs, and its name
abbrev pub finding_text : Finding → List ℕ
finding_text f = decimal f.at ++ (codes " " ++ (kind_name f.kind ++ codes "\n"))

abbrev pub findings_text : List Finding → List ℕ
findings_text [] = []
findings_text (f ∷ fs) = finding_text f ++ findings_text fs

-- WHICH GEAR HAS A SHORT ADDRESS, AS A LINE, from number k on: none if no gear was heard
abbrev pub way_name : Holder → List ℕ
way_name holder.Nobody = codes "unknown"
way_name (holder.Programmed r) = codes "programmed"
way_name holder.Somebody = codes "answered"
way_name (holder.Answered r) = codes "answered"
way_name (holder.Verified r) = codes "verified"

abbrev pub place_text : ℕ → Holder → List ℕ
place_text k h = codes " short " ++ (decimal k ++ (codes " " ++ (way_name h ++ codes "\n")))

abbrev pub gear_text : ℕ → ℕ → Holder → List ℕ
gear_text k r h = codes "gear " ++ (random_text r ++ place_text k h)

abbrev pub holder_text : ℕ → Holder → List ℕ
holder_text k holder.Nobody = []
holder_text k holder.Somebody =
    codes "gear - short "
    ++ (decimal k ++ (codes " " ++ (way_name holder.Somebody ++ codes "\n")))
holder_text k (holder.Programmed r) = gear_text k r (holder.Programmed r)
holder_text k (holder.Answered r) = gear_text k r (holder.Answered r)
holder_text k (holder.Verified r) = gear_text k r (holder.Verified r)

abbrev pub table_text : ℕ → List Holder → List ℕ
table_text k [] = []
table_text k (h ∷ hs) = holder_text k h ++ table_text (k + 1) hs

-- THE SAME AS JSON, from number k on; an object for each short address
abbrev pub comma : ℕ → List ℕ
comma zero = []
comma (suc k) = codes ","

abbrev pub json_finding : ℕ → Finding → List ℕ
json_finding k f =
    comma k
    ++ (codes "{\"at\":"
    ++ (decimal f.at ++ (codes ",\"kind\":\"" ++ (kind_name f.kind ++ codes "\"}"))))

abbrev pub json_findings : ℕ → List Finding → List ℕ
json_findings k [] = []
json_findings k (f ∷ fs) = json_finding k f ++ json_findings (k + 1) fs

abbrev pub json_nobody : ℕ → Holder → List ℕ
json_nobody k h =
    comma k
    ++ (codes "{\"short\":"
    ++ (decimal k ++ (codes ",\"random\":null,\"known\":\"" ++ (way_name h ++ codes "\"}"))))

abbrev pub json_gear : ℕ → ℕ → Holder → List ℕ
json_gear k r h =
    comma k
    ++ (codes "{\"short\":"
    ++ (decimal k
    ++ (codes ",\"random\":\""
    ++ (random_text r ++ (codes "\",\"known\":\"" ++ (way_name h ++ codes "\"}"))))))

abbrev pub json_known : ℕ → Option ℕ → Holder → List ℕ
json_known k None h = json_nobody k h
json_known k (Some r) h = json_gear k r h

abbrev pub json_holder : ℕ → Holder → List ℕ
json_holder k h = json_known k (random_of h) h

abbrev pub json_table : ℕ → List Holder → List ℕ
json_table k [] = []
json_table k (h ∷ hs) = json_holder k h ++ json_table (k + 1) hs
