use Rattle.std.specs.Prelude.{◌≡◌, ℕ, List, [], ◌∷◌, ◌++◌, Bool, true, false, Option}
use Rattle.std.specs.Prelude.{Some, None, Result, Ok, Err}
use Rattle.std.specs.Io.KnownBytes.{Appends, Keeps}
use Rattle.dali_events.specs.Plan.{Plan}
use Rattle.dali_grammar.specs.declared.fault.ReplayFault.{ReplayFault}
use Rattle.dali_grammar.specs.declared.fault.ReplayFault.TheVariants.{BadLine, BadPlan, Memory}
use Rattle.dali_grammar.specs.declared.fault.ReplayFault.TheVariants.{Read, Write}
use Rattle.dali_grammar.specs.declared.bench_line.BenchLine.{BenchLine}
use Rattle.dali_grammar.specs.declared.site_line.SiteLine.{SiteLine}
use Rattle.dali_grammar.specs.Lines.{words_of}
use Rattle.dali_grammar.specs.BenchLine.{bench_line_of}
use Rattle.dali_grammar.specs.SiteLine.{site_line_of}
use Rattle.dali_grammar.specs.Setting.{NumberedLines, End, Done, AtLine, Refused, Setting}
use Rattle.dali_replay.specs.declared.form.Form.{Form}
use Rattle.dali_replay.specs.declared.player.Player.TheVariants as player
use Rattle.dali_replay.specs.Bench.{BenchState, start, after}
use Rattle.dali_replay.specs.BenchReport.{report}
use Rattle.dali_replay.specs.Installation.{Installation, installation_of}
use Rattle.dali_replay.specs.SiteReport.{Says}
use Rattle.dali_replay.specs.Json.{written}

-- ---------------------------------------------------------------- benches

-- what a run writes, and how it ends
pub record Output : Type 0 where
  pub text : List ℕ
  pub end : End

abbrev pub nothing : End → Output
nothing end = record { text = []; end = end }

-- what is written of one line, in this form
abbrev pub wrote : Form → ℕ × List ℕ → BenchState → BenchLine → List ℕ
wrote form line w asked = written form line.0 line.1 (player.Bench (after w asked)) (report w asked)

-- one line, and what follows it; a line that asks for nothing known ends the run
abbrev pub playing : Form → ℕ × List ℕ → BenchState → Option BenchLine → (BenchState → Output)
    → Output
playing form line w None next = nothing (AtLine line.0)
playing form line w (Some asked) next =
    let more = next (after w asked) in
    record { text = wrote form line w asked ++ more.text; end = more.end }

-- On a bench the output is a function of the lines.
abbrev pub played : Form → BenchState → NumberedLines → Output
played form w [] = nothing Done
played form w (line ∷ lines) =
    playing form line w (bench_line_of (words_of line.1)) (λ v. played form v lines)

-- What an answer says of the writer's bytes before and after, and of this output.
abbrev pub Plays : {A : Type 0} → Output → Option (List ℕ) → Option (List ℕ) → Result A ReplayFault
    → Type 0
Plays o old new (Ok _) = (o.end ≡ Done) × Appends old new o.text
Plays o old new (Err (BadLine n)) = (o.end ≡ AtLine n) × Appends old new o.text
Plays o old new (Err (BadPlan e)) = (o.end ≡ Refused e) × Appends old new o.text
Plays o old new (Err Memory) =
    (text : List ℕ) × (rest : List ℕ) × (text ++ rest ≡ o.text) × Appends old new text
Plays o old new (Err Read) = ⊥
Plays o old new (Err Write) = Unit {0}

-- ---------------------------------------------------------------- sites

-- THE LINES OF A SITE, one after the other: what becomes of the installation, and what is written
-- of each in this form, in order. So the same installations have the texts and the JSON.
abbrev pub Chain : Form → Installation → NumberedLines → List ℕ → Installation → Type 0
Chain form n [] text m = (text ≡ []) × (m ≡ n)
Chain form n (line ∷ lines) text m =
    (asked : SiteLine) × (first : List ℕ) × (between : Installation) × (rest : List ℕ)
    × (site_line_of (words_of line.1) ≡ Some asked) × Says n asked first between
    × Chain form between lines rest m
    × (text ≡ written form line.0 line.1 (player.Site between) first ++ rest)

-- of the lines, those before `more` were played, and what is to be written of them was written
pub record HavePlayed (form : Form) (n : Installation) (lines more : NumberedLines)
    (m : Installation) (old new : Option (List ℕ)) : Type 0 where
  pub front : NumberedLines
  pub text : List ℕ
  pub split : lines ≡ front ++ more
  pub chain : Chain form n front text m
  pub wrote : Appends old new text

-- the first of the lines is line k, and a bad line
abbrev pub IsBadAt : ℕ → NumberedLines → Type 0
IsBadAt k [] = ⊥
IsBadAt k (line ∷ lines) = (line.0 ≡ k) × (site_line_of (words_of line.1) ≡ None)

-- What an answer says of the lines of a site, and of the writer's bytes before and after.
abbrev pub PlaysSite : {A : Type 0} → Form → Installation → NumberedLines → Option (List ℕ)
    → Option (List ℕ) → Result A ReplayFault → Type 0
PlaysSite form n lines old new (Ok _) =
    (m : Installation) × HavePlayed form n lines [] m old new
PlaysSite form n lines old new (Err (BadLine k)) =
    (m : Installation) × (more : NumberedLines) × IsBadAt k more
    × HavePlayed form n lines more m old new
PlaysSite form n lines old new (Err (BadPlan e)) = ⊥
PlaysSite form n lines old new (Err Memory) =
    (m : Installation) × (more : NumberedLines) × HavePlayed form n lines more m old new
PlaysSite form n lines old new (Err Read) = ⊥
PlaysSite form n lines old new (Err Write) = Unit {0}

-- ---------------------------------------------------------------- whole inputs

abbrev pub PlaysSetting : {A : Type 0} → Form → Bool → Plan → NumberedLines → Option (List ℕ)
    → Option (List ℕ) → Result A ReplayFault → Type 0
PlaysSetting form true p lines old new r = Plays (played form (start p) lines) old new r
PlaysSetting form false p lines old new r = PlaysSite form (installation_of p) lines old new r

-- WHAT A RUN OVER BYTES SAYS, by what the first lines set up. If they set up nothing, nothing is
-- written.
abbrev pub Replays : {A : Type 0} → Form → Result (Setting × NumberedLines) End → Option (List ℕ)
    → Option (List ℕ) → Result A ReplayFault → Type 0
Replays form (Err end) old new r = Plays (nothing end) old new r
Replays form (Ok s) old new r = PlaysSetting form s.0.0 s.0.1 s.1 old new r

-- the same if the input is read first
abbrev pub Tells : {A : Type 0} → Form → Result (Setting × NumberedLines) End → Option (List ℕ)
    → Option (List ℕ) → Result A ReplayFault → Type 0
Tells form s old new (Ok x) = Replays form s old new (Ok x)
Tells form s old new (Err (BadLine n)) =
    Replays {A = Unit {0}} form s old new (Err (BadLine n))
Tells form s old new (Err (BadPlan e)) =
    Replays {A = Unit {0}} form s old new (Err (BadPlan e))
Tells form s old new (Err Memory) = Replays {A = Unit {0}} form s old new (Err Memory)
Tells form s old new (Err Read) = Keeps old new
Tells form s old new (Err Write) = Unit {0}
