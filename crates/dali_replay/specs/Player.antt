use Rattle.std.specs.Prelude.{◌≡◌, ℕ, List, Bool, true, false, Option, Some, None, Result, Ok, Err}
use Rattle.dali_events.specs.declared.event.Event.{Event}
use Rattle.dali_events.specs.Plan.{Plan}
use Rattle.dali_grammar.specs.declared.bench_line.BenchLine.{BenchLine}
use Rattle.dali_grammar.specs.declared.site_line.SiteLine.{SiteLine}
use Rattle.dali_grammar.specs.declared.fault.ReplayFault.{ReplayFault}
use Rattle.dali_grammar.specs.declared.fault.ReplayFault.TheVariants.{BadLine, BadPlan, Memory}
use Rattle.dali_grammar.specs.declared.fault.ReplayFault.TheVariants.{Read, Write}
use Rattle.dali_replay.specs.declared.form.Form.{Form}
use Rattle.dali_replay.specs.declared.player.Player.{Player}
use Rattle.dali_replay.specs.declared.player.Player.TheVariants as player
use Rattle.dali_grammar.specs.Lines.{words_of}
use Rattle.dali_grammar.specs.BenchLine.{bench_line_of}
use Rattle.dali_grammar.specs.SiteLine.{site_line_of}
use Rattle.dali_replay.specs.Bench.{start, after}
use Rattle.dali_replay.specs.BenchReport.{report, bench_event}
use Rattle.dali_replay.specs.Installation.{Installation, installation_of}
use Rattle.dali_replay.specs.SiteReport.{Says}
use Rattle.dali_replay.specs.Text.{Writes}
use Rattle.dali_grammar.specs.Setting.{NumberedLines}
use Rattle.dali_replay.specs.Replay.{Plays, PlaysSite, played}

-- what the first lines set up, before anything is played
abbrev pub player_of : Bool → Plan → Player
player_of true p = player.Bench (start p)
player_of false p = player.Site (installation_of p)

-- ONE LINE: what it reports, the event that comes of it on a bench, and what stands after it.
abbrev pub Turns : Player → List ℕ → List ℕ → Option Event → Player → Type 0
Turns (player.Bench w) line text came next =
    (asked : BenchLine) × (bench_line_of (words_of line) ≡ Some asked) × (text ≡ report w asked)
    × (came ≡ bench_event w asked) × (next ≡ player.Bench (after w asked))
Turns (player.Site n) line text came next =
    (asked : SiteLine) × (m : Installation) × (site_line_of (words_of line) ≡ Some asked)
    × Says n asked text m × (came ≡ None) × (next ≡ player.Site m)

-- a line that asks for nothing known
abbrev pub IsBad : Player → List ℕ → Type 0
IsBad (player.Bench w) line = bench_line_of (words_of line) ≡ None
IsBad (player.Site n) line = site_line_of (words_of line) ≡ None

-- WHAT AN ANSWER SAYS of one line: it was played, and its report stands behind the text; or it is a
-- bad line; or memory is wanting.
abbrev pub Takes : Player → ℕ → List ℕ → List ℕ → Player → List ℕ
    → Result (Option Event) ReplayFault → Type 0
Takes s n line old t new (Ok came) = Writes old new (λ more. Turns s line more came t)
Takes s n line old t new (Err (BadLine k)) = (k ≡ n) × IsBad s line
Takes s n line old t new (Err (BadPlan e)) = ⊥
Takes s n line old t new (Err Memory) = Unit {0}
Takes s n line old t new (Err Read) = ⊥
Takes s n line old t new (Err Write) = ⊥

-- WHAT AN ANSWER SAYS of all lines that are left, and of the writer's bytes before and after.
abbrev pub PlaysOn : {A : Type 0} → Form → Player → NumberedLines → Option (List ℕ)
    → Option (List ℕ) → Result A ReplayFault → Type 0
PlaysOn form (player.Bench w) lines old new r = Plays (played form w lines) old new r
PlaysOn form (player.Site n) lines old new r = PlaysSite form n lines old new r
