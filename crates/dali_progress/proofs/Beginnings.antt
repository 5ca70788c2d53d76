use Rattle.dali_progress.proofs.Below.{◌≡◌, ℕ, ◌+◌, ◌≤◌, List, sym, subst, arith, length, Some, End, Machine, IsRun, Event, SiteState, world, machine_at}
use Rattle.dali_progress.proofs.Below.{IsPumpRefused, NamesAll, IsTrueEnd, table_at, most_events, Beginning, most_frames, Rounds, GoesOn, by_survey, IsAlone}
use Rattle.dali_progress.proofs.Below.{HasEnded, ByStart, BySurvey, frames, bare, IsSettled, IsSettledAt, site_after, BeginsAlone}
use Rattle.dali_events.specs.declared.trouble.Trouble.TheVariants as trouble
use Rattle.dali_standing.specs.declared.refusal.Refusal.TheVariants as refusal
use Rattle.dali_progress.proofs.Drawing as drawing
use Rattle.dali_progress.proofs.Start.Goes as start
use Rattle.dali_progress.proofs.Survey.Goes as survey
use Rattle.dali_progress.proofs.{Along.{Measure, Argument, Runs, RunsAll, runs_all, few_all, with_left, goes_by}, Lone.IsLone, Start.Goes.of_start}
use Rattle.dali_progress.proofs.{Start.Numbers.{LeavesDraws, start_draws}, Survey.Goes.of_survey, Survey.Numbers.{HasNumbers, survey_draws}}

-- THE LAWS BY CASES, over what is proved of a start and of a survey.

pub alone_of : (b : Beginning) (s : SiteState) (c : ℕ) → BeginsAlone b s c → IsAlone s c
alone_of ByStart s c a = a.0
alone_of BySurvey s c a = a

-- one that may start may survey, and its records are settled
pub begins_so : (b : Beginning) (s : SiteState) (c : ℕ) → BeginsAlone ByStart s c → BeginsAlone b s c
begins_so ByStart s c a = a
begins_so BySurvey s c a = a.0

pub begins_settled : (s : SiteState) (c : ℕ) → BeginsAlone ByStart s c → IsSettledAt s c
begins_settled s c a = subst IsSettled (sym a.1) (λ x has. absurd has)

-- ---------------------------------------------------------------- the two arguments

abbrev pub measure : Beginning → SiteState → ℕ → Measure
measure ByStart s c = of_start (world s).gear
measure BySurvey s c = of_survey (survey.began_at s c)

pub argues : (b : Beginning) (s : SiteState) (c : ℕ) → Argument (measure b s c)
argues ByStart s c = start.argument (world s).gear
argues BySurvey s c = survey.argument (survey.began_at s c)

pub begun_runs : (b : Beginning) (s : SiteState) (c : ℕ) → BeginsAlone b s c → Runs (measure b s c) s c (most_frames b (bare s))
begun_runs ByStart s c a = start.starts s c a
begun_runs BySurvey s c a = survey.starts s c a

pub runs_after : (b : Beginning) (s : SiteState) (c : ℕ) (es : List Event) → BeginsAlone b s c → Rounds (by_survey b) s c es
    → RunsAll (measure b s c) s c (most_frames b (bare s)) es
runs_after ByStart s c es a rounds = runs_all (measure ByStart s c) (argues ByStart s c) s c (most_frames ByStart (bare s)) es (begun_runs ByStart s c a) rounds
runs_after BySurvey s c es a rounds =
    runs_all (measure BySurvey s c) (argues BySurvey s c) s c (most_frames BySurvey (bare s)) es (begun_runs BySurvey s c a) rounds

pub rounds_by : (b : Beginning) (first s : SiteState) (c : ℕ) (es : List Event) → Rounds (by_survey b) s c es → Rounds (measure b first c).by s c es
rounds_by ByStart first s c es rounds = rounds
rounds_by BySurvey first s c es rounds = rounds

-- NO MORE FRAMES are sent than these, and no more events come
pub bounded : (b : Beginning) (s : SiteState) (c : ℕ) (es : List Event) → BeginsAlone b s c → Rounds (by_survey b) s c es → frames es ≤ most_frames b (bare s)
bounded b s c es a rounds = let all = runs_after b s c es a rounds in omega (arith, all.sum)

events_most : (b : Beginning) (s : SiteState) (c k : ℕ) → k ≤ (measure b s c).events (most_frames b (bare s)) + 1 → k ≤ most_events b (bare s)
events_most ByStart s c k few = omega (arith, few)
events_most BySurvey s c k few = omega (arith, few)

pub few_events : (b : Beginning) (s : SiteState) (c : ℕ) (es : List Event) → BeginsAlone b s c → Rounds (by_survey b) s c es
    → length es ≤ most_events b (bare s)
few_events b s c es a rounds =
    events_most b s c (length es) (few_all (measure b s c) (argues b s c) s c (most_frames b (bare s)) es (alone_of b s c a) (runs_after b s c es a rounds))

-- ---------------------------------------------------------------- it goes on

-- what is so after rounds: it goes together with its bus
pub record IsAfter (s : SiteState) (c : ℕ) : Type 0 where
  pub run : IsRun s.plan s.queue s.log
  pub machine : Machine
  pub there : machine_at s c ≡ Some machine
  pub lone : IsLone (world s) s.queue c machine

pub after : (b : Beginning) (s : SiteState) (c : ℕ) (es : List Event) → BeginsAlone b s c → Rounds (by_survey b) s c es → IsAfter (site_after s es) c
after b s c es a rounds =
    let all = runs_after b s c es a rounds in
    record { run = all.runs.run; machine = all.runs.machine; there = all.runs.there; lone = all.runs.goes.lone }

pub goes_on : (b : Beginning) (s : SiteState) (c : ℕ) (es : List Event) → BeginsAlone b s c → Rounds (by_survey b) s c es
    → GoesOn (by_survey b) (site_after s es) c
goes_on b s c es a rounds =
    let all = runs_after b s c es a rounds in
    goes_by (measure b s c).known (with_left (measure b s c) all.rest) (by_survey b) (site_after s es) c all.runs
    (λ m why holds. (argues b s c).halts m why (world (site_after s es)).gear all.rest holds)

-- ---------------------------------------------------------------- its end

pub ends : (b : Beginning) (s : SiteState) (c : ℕ) (es : List Event) (e : End) → BeginsAlone b s c → Rounds (by_survey b) s c es
    → HasEnded (site_after s es) c e → IsTrueEnd b s (site_after s es) c e
ends ByStart s c es e a rounds ended = let all = runs_after ByStart s c es a rounds in (start.ended_by s (site_after s es) c all.rest e all.runs ended).0
ends BySurvey s c es e a rounds ended =
    let all = runs_after BySurvey s c es a rounds in
    let by = survey.ended_by s (site_after s es) c all.rest e all.runs ended in
    (survey.ends s (site_after s es) c e by, survey.ends_settled s (site_after s es) c e by)

pub named : (b : Beginning) (s : SiteState) (c : ℕ) (es : List Event) (e : End) → BeginsAlone b s c → Rounds (by_survey b) s c es
    → HasEnded (site_after s es) c e → NamesAll (by_survey b) s (table_at (site_after s es) c) (site_after s es)
named ByStart s c es e a rounds ended = let all = runs_after ByStart s c es a rounds in (start.ended_by s (site_after s es) c all.rest e all.runs ended).1
named BySurvey s c es e a rounds ended =
    let all = runs_after BySurvey s c es a rounds in
    survey.tabled s (site_after s es) c e (survey.ended_by s (site_after s es) c all.rest e all.runs ended)

-- ---------------------------------------------------------------- its numbers

pub never_spent : (b : Beginning) (s : SiteState) (c : ℕ) (es : List Event) → BeginsAlone b s c → bare s ≤ length (world s).left → Rounds (by_survey b) s c es
    → IsPumpRefused (site_after s es) trouble.None refusal.DrawsSpent → ⊥
never_spent ByStart s c es a enough rounds =
    drawing.never_spent (measure ByStart s c) (argues ByStart s c) LeavesDraws (start_draws (world s).gear) s c (most_frames ByStart (bare s)) es
    (start.starts s c a) rounds (λ m there closed. enough)
never_spent BySurvey s c es a enough rounds =
    drawing.never_spent (measure BySurvey s c) (argues BySurvey s c) HasNumbers (survey_draws (survey.began_at s c)) s c (most_frames BySurvey (bare s)) es
    (survey.starts s c a) rounds (λ m there k h lost. enough)
