use Rattle.std.specs.Prelude.{◌≡◌, ◌⊎◌, ℕ, List, [], ◌∷◌, ◌++◌, length, Bool, Option, Result}
use Rattle.std.specs.Prelude.{Ok, Err, string_bytes, if◌then◌else◌}
use Rattle.dali_events.specs.declared.event.Event.{Event}
use Rattle.dali_events.specs.Plan.{Plan}
use Rattle.dali_grammar.specs.declared.fault.ReplayFault.{ReplayFault}
use Rattle.dali_grammar.specs.declared.fault.ReplayFault.TheVariants.{BadLine, BadPlan, Memory}
use Rattle.dali_grammar.specs.declared.fault.ReplayFault.TheVariants.{Read, Write}
use Rattle.dali_grammar.specs.declared.lines.Script.{Script}
use Rattle.dali_replay.specs.declared.player.Player.{Player}
use Rattle.dali_replay.specs.declared.player.Player.TheVariants as player
use Rattle.dali_replay.specs.declared.played.PlayedLine.{PlayedLine}
use Rattle.dali_replay.specs.declared.played.Played.{Played}
use Rattle.dali_grammar.specs.Lines.{numbered_after}
use Rattle.dali_replay.specs.BenchReport.{with_event}
use Rattle.dali_replay.specs.Json.{json_state}
use Rattle.dali_grammar.specs.Setting.{NumberedLines, End, Setting, PlansNot}
use Rattle.dali_replay.specs.Player.{Turns, IsBad, player_of}

-- ---------------------------------------------------------------- what stands

-- all that happened so far: on a bench what was kept, on a site its log
abbrev pub log_in : Player → List Event → List Event
log_in (player.Bench w) kept = kept
log_in (player.Site n) kept = n.site.log

abbrev pub events_in : Player → List Event → ℕ
events_in s kept = length (log_in s kept)

-- ---------------------------------------------------------------- the lines

-- A SCRIPT THAT IS PLAYED: what it is played on, and the lines that are left.
pub record Stand : Type 0 where
  pub player : Player
  pub left : NumberedLines

abbrev pub stand : Player → Script → Stand
stand player script = record { player = player; left = numbered_after script.read script.rest.now }

-- A LINE THAT WAS PLAYED: its number and its bytes, the places of its events in the log, and where
-- its report ends.
pub record IsLine (l : ℕ × List ℕ) (from upto end : ℕ) (p : PlayedLine) : Type 0 where
  pub number : p.number ≡ l.0
  pub line : p.line.now ≡ l.1
  pub first : p.first ≡ from
  pub after : p.after ≡ upto
  pub report : p.report ≡ end

-- ALL LINES, one after the other: each was played in the state that the lines before it left, and
-- its report stands behind theirs. On a bench what came of it is kept.
abbrev pub Follow : Player → NumberedLines → List Event → List ℕ → List PlayedLine → Player
    → List Event → List ℕ → Type 0
Follow s [] kept said [] t all text = (t ≡ s) × (all ≡ kept) × (text ≡ said)
Follow s [] kept said (p ∷ ps) t all text = ⊥
Follow s (l ∷ ls) kept said [] t all text = ⊥
Follow s (l ∷ ls) kept said (p ∷ ps) t all text =
    (more : List ℕ) × (came : Option Event) × (next : Player) × Turns s l.1 more came next
    × IsLine l (events_in s kept) (events_in next (with_event kept came)) (length (said ++ more)) p
    × Follow next ls (with_event kept came) (said ++ more) ps t all text

-- line n is the first one that asks for nothing known
abbrev pub IsBadLater : Player → NumberedLines → ℕ → Type 0
IsBadLater s [] n = ⊥
IsBadLater s (l ∷ ls) n =
    ((l.0 ≡ n) × IsBad s l.1)
    ⊎ ((more : List ℕ) × (came : Option Event) × (next : Player) × Turns s l.1 more came next
    × IsBadLater next ls n)

abbrev pub StopsIn : Stand → ReplayFault → Type 0
StopsIn p (BadLine n) = IsBadLater p.player p.left n
StopsIn p (BadPlan e) = ⊥
StopsIn p Memory = Unit {0}
StopsIn p Read = ⊥
StopsIn p Write = ⊥

-- what an answer says of the lines that were left, and of what was kept of them
abbrev pub PlaysAll : {A : Type 0} → Stand → Player → List PlayedLine → List PlayedLine → List ℕ
    → List ℕ → List Event → List Event → Result A ReplayFault → Type 0
PlaysAll p q lines more said text kept all (Ok _) =
    (ps : List PlayedLine) × (more ≡ lines ++ ps)
    × Follow p.player p.left kept said ps q all text
PlaysAll p q lines more said text kept all (Err e) = StopsIn p e

-- ---------------------------------------------------------------- a whole script

-- nothing was played yet
pub record IsEmpty (x : Played) : Type 0 where
  pub lines : x.lines.items ≡ []
  pub reports : string_bytes x.reports ≡ []
  pub log : x.log.items ≡ []
  pub state : string_bytes x.state ≡ []

-- of a script that sets this up
pub record IsOf (is_bench : Bool) (p : Plan) (x : Played) : Type 0 where
  pub gear : x.gear ≡ p.gear
  pub controllers : x.controllers ≡ (if is_bench then 0 else length p.blocks)
  pub draws : x.draws.items ≡ p.draws
  pub used : x.used.items ≡ p.used

-- what was set up is the same
pub record IsSame (x y : Played) : Type 0 where
  pub input : y.input.now ≡ x.input.now
  pub gear : y.gear ≡ x.gear
  pub controllers : y.controllers ≡ x.controllers
  pub draws : y.draws.items ≡ x.draws.items
  pub used : y.used.items ≡ x.used.items

-- A SCRIPT THAT WAS PLAYED TO ITS END: its lines and their reports, all that happened, and the gear
-- and tables at the end, as `show` has them as JSON.
abbrev pub IsPlayed : Stand → Played → Type 0
IsPlayed p x =
    (t : Player) × (kept : List Event)
    × Follow p.player p.left [] [] x.lines.items t kept (string_bytes x.reports)
    × (x.log.items ≡ log_in t kept) × (string_bytes x.state ≡ json_state t)

-- what the first lines set up, and all lines behind them
abbrev pub begun : Setting × NumberedLines → Stand
begun s = record { player = player_of s.0.0 s.0.1; left = s.1 }

abbrev pub IsPlayedBy : Result (Setting × NumberedLines) End → Played → Type 0
IsPlayedBy (Ok s) x = IsOf s.0.0 s.0.1 x × IsPlayed (begun s) x
IsPlayedBy (Err end) x = ⊥

-- WHY A SCRIPT WAS NOT PLAYED TO ITS END
abbrev pub StopsBy : Result (Setting × NumberedLines) End → ReplayFault → Type 0
StopsBy (Ok s) e = StopsIn (begun s) e
StopsBy (Err end) e = PlansNot {A = Setting × NumberedLines} (Err end) e
