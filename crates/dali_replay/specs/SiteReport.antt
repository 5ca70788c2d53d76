use Rattle.std.specs.Prelude.{◌≡◌, ℕ, zero, suc, List, [], ◌++◌, length, Result}
use Rattle.dali_events.specs.declared.event.Event.TheVariants as event
use Rattle.dali_events.specs.declared.event.Outside.TheVariants as outside
use Rattle.dali_events.specs.World.{World, gear_at, controller_at}
use Rattle.dali_standing.specs.declared.refusal.Refusal.{Refusal}
use Rattle.dali_world.specs.Site.{SiteState, world, IsArcRefused, IsLogFull}
use Rattle.dali_grammar.specs.declared.site_line.SiteLine.{SiteLine}
use Rattle.dali_grammar.specs.declared.site_line.SiteLine.TheVariants as line
use Rattle.dali_replay.specs.Installation.{Installation, Goes, Stores, Fails, Surveys}
use Rattle.dali_replay.specs.Installation.{ComesUp, Calls, PumpsOn, BefallsOn, Requests, Lapses}
use Rattle.dali_replay.specs.Rounds.{Runs}
use Rattle.dali_replay.specs.Text.{ok_of, offered_of, answer_or_refusal, ordered_text, report_text}
use Rattle.dali_replay.specs.Text.{lapse_text, gear_text, table_text}

-- ---------------------------------------------------------------- `show`

-- the gear before number k, a line each
abbrev pub gear_lines : World → ℕ → List ℕ
gear_lines w zero = []
gear_lines w (suc k) = gear_lines w k ++ gear_text k (gear_at w k)

-- the tables of the controllers before number c: the enrolments that they keep, also while they are
-- down
abbrev pub table_lines : World → ℕ → List ℕ
table_lines w zero = []
table_lines w (suc c) = table_lines w c ++ table_text c (controller_at w c).records.enrolled

abbrev pub site_text : SiteState → List ℕ
site_text s = gear_lines (world s) s.plan.gear ++ table_lines (world s) (length s.plan.blocks)

-- ---------------------------------------------------------------- the table of the lines

-- what a call answers, and its text
abbrev pub Answers : {A : Type 0} → (Result A Refusal → Type 0) → (A → List ℕ) → List ℕ → Type 0
Answers {A} Is text_of text =
    (result : Result A Refusal) × Is result × (text ≡ answer_or_refusal text_of result)

-- WHAT A LINE SAYS: what becomes of the installation, and the text that is reported. One case for
-- each line.
abbrev pub Says : Installation → SiteLine → List ℕ → Installation → Type 0
Says n (line.Go c) text m = Answers (λ r. Goes n c r m) (ordered_text c) text
Says n (line.Store c) text m = Answers (λ r. Stores n c r m) ok_of text
Says n (line.Fail c) text m = Answers (λ r. Fails n c r m) (ordered_text c) text
Says n (line.Survey c) text m = Answers (λ r. Surveys n c r m) (ordered_text c) text
Says n (line.Pump t) text m = Answers (λ r. PumpsOn n t r m) report_text text
Says n line.Lapse text m =
    Answers (λ r. Calls (Lapses n.site) (IsLogFull n.site) n r m) lapse_text text
Says n (line.Arc c f) text m =
    Answers (λ r. Calls (Requests n.site (event.Offered c f)) (IsArcRefused n.site c f) n r m)
    (offered_of c f) text
Says n (line.Outside x) text m = Answers (λ r. BefallsOn n x r m) ok_of text
Says n (line.Down c) text m = Answers (λ r. BefallsOn n (outside.Down c) r m) ok_of text
Says n (line.Up c) text m = Answers (λ r. ComesUp n c r m) ok_of text
Says n (line.Run limit) text m = Runs limit n text m
Says n line.Show text m = (text ≡ site_text n.site) × (m ≡ n)
