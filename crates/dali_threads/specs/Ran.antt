use Rattle.std.specs.Prelude.{◌≡◌, ℕ, ◌<◌, Bool, List, length, slice_index_or, Option, None, Some}
use Rattle.std.specs.Prelude.{Result}
use Rattle.dali_world.specs.Site.{SiteState}
use Rattle.dali_line.specs.declared.outcome.Outcome.{Outcome}
use Rattle.dali_line.specs.Calls.{ActsFrom, IsRefusedFrom, IsToldFrom, IsUntoldFrom, IsOrderedFrom}
use Rattle.dali_line.specs.Calls.{IsUnorderedFrom, IsDownFrom, PumpsFrom, LapsesFrom}
use Rattle.dali_line.specs.Counts.{others_of, share_in, shares_of}
use Rattle.dali_line.specs.Driving.{Drives}
use Rattle.dali_line.specs.Ends.{IsCount, IsEnd}
use Rattle.dali_line.specs.Facts.{Facts, facts_of}
use Rattle.dali_line.specs.Found.{FromDriver, IsStuck, IsGivenBack}
use Rattle.dali_line.specs.Runs.{AreTaken, steps_in}
use Rattle.dali_line.specs.Shares.{PortShare, port_share}
use Rattle.dali_line.specs.Steps.{Step}
use Rattle.dali_threads.specs.declared.setup.Setup.{Setup}
use Rattle.dali_threads.specs.declared.setup.ThreadsFault.{ThreadsFault}

-- A WORKER'S RUN of at most so many turns, as its end tells it: the turns that were taken with its
-- port, from one share to another, as the bus says of each, and how the steps among them ended.
pub record HasRun (bus : Facts) (from to : PortShare) (most : ℕ) (end : Outcome) : Type 0 where
  pub turns : List (Option Step)
  pub taken : AreTaken bus None from turns to
  pub count : IsCount (Some end) (length turns) most
  pub ends : IsEnd bus to (Some end) (steps_in turns)

-- each of these ends, with the port that came back, is that of a run with the port at its place
abbrev pub EachHasRun : {P : Type 0} (bus : Facts) (share : P → PortShare)
    → List P → ℕ → List (Outcome × P) → Type 0
EachHasRun bus share ports most ended =
    (i : ℕ) (p : _) (e : _) → i < length ended
    → HasRun bus (share (slice_index_or ports i p)) (share (slice_index_or ended i e).1) most
    (slice_index_or ended i e).0

-- what a line says of its calls to a worker that surveys, or does not
abbrev pub line_facts : Bool → Facts
line_facts surveys =
    facts_of ActsFrom IsRefusedFrom IsToldFrom IsUntoldFrom IsUnorderedFrom IsOrderedFrom IsDownFrom
    (Unit {0}) surveys

-- what came of a run of this setup: no contract sees which threads ran and what a system printed,
-- so only who runs it may say so
unfoldable pub IsRunOf : Setup → Result (Unit {0}) ThreadsFault → Type 0
IsRunOf setup ended = Unit {0}

-- A RUN OF ALL over one line, which begins with an empty log. The line gave this site back. Each
-- controller's worker ended so, in a run with as many steps as the log has of its controller; and
-- all that the log has of no controller was driven by the pumper.
pub record HaveRun (turns : ℕ) (surveys : Bool) (outcomes : List Outcome)
    (s : SiteState) : Type 0 where
  pub given : IsGivenBack s (shares_of s) (others_of s.log)
  pub count : length outcomes ≡ length (shares_of s)
  pub ran : (c : ℕ) (end : Outcome) → c < length outcomes
      → HasRun (line_facts surveys) (port_share c 0) (share_in s c) turns
      (slice_index_or outcomes c end)
  pub driven : Drives PumpsFrom (λ driver. FromDriver driver IsStuck) LapsesFrom 0
      (others_of s.log) turns
