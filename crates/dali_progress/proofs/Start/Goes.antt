use Rattle.dali_progress.proofs.Below.{◌≡◌, ℕ, ◌+◌, ◌*◌, ◌≤◌, Bool, false, suc, List, [], ◌∷◌, ◌++◌, refl, sym, subst, ◌∙◌, arith, Option, Some, None, inl}
use Rattle.dali_progress.proofs.Below.{count_by, Answer, Forward, SearchAddress, command_of, Gear, row_after, answers_of, heard_of, Everyone, Kept, IsKept}
use Rattle.dali_progress.proofs.Below.{IsLawful, IsTrace, stage_of, next_stage, End, Input, Order, Put, Commit, Done, Halt, Stage, trace_more, stage_more}
use Rattle.dali_progress.proofs.Below.{Search, Course, Machine, machine_heard, machine_told, silent_after, at_first, next_course, beginning, machine_ordered}
use Rattle.dali_progress.proofs.Below.{machine_after, Purpose, Opening, Probing, Visiting, Closing, IsGivenBy, Allowed, entry, is_bare, World, controller_at}
use Rattle.dali_progress.proofs.Below.{SiteState, world, AreTabled, EndsWell, NamesAll, IsTrueEnd, table_at, Succeeds, HasEnded, ByStart, bare, BeginsAlone}
use Rattle.dali_script.specs.declared.orders.Input.TheVariants as input
use Rattle.dali_script.specs.declared.stage.Stage.TheVariants as stage
use Rattle.dali_events.specs.declared.event.Event.TheVariants as event
use Rattle.dali_progress.proofs.Along.{Measure, Goes, slack_at, Argument, Runs, held_ended, runs_first, with_left, HoldsBy, holds_next, acts_from}
use Rattle.dali_progress.proofs.{Both.{with_kept, not_free, IsKnown, taken_of, no_tries, put_no_enrolment, lawful_now}, Frames.{Seeks, at_sent}}
use Rattle.dali_progress.proofs.{Logged.kept_now, Lone.lone_sent, Stands.{search_frames, to_come, At, Stands}, Start.Turns.{IsUndisturbed, IsNext, turned}}
use Rattle.dali_progress.proofs.{Start.Turns.{started, started_begins, committed, committed_begins}, Tables.{IsTabledTo, at_tabled}}

-- COMMISSIONING GOES ON, event by event.

-- before the start
pub record IsFresh (before : List Gear) (m : Machine) (gs : List Gear) (left : ℕ) : Type 0 where
  pub calm : IsUndisturbed m
  pub tabled : AreTabled before m.kept.enrolled gs
  pub free : m.trace ≡ []
  pub nothing : m.kept.reserved ≡ []
  pub unopened : m.course.opened ≡ false
  pub opening : m.course.purpose ≡ Opening
  pub frames : 5 + search_frames (count_by is_bare gs) ≤ left

-- a frame was heard: the machine stands so, once it is told
pub record Hears (before : List Gear) (m : Machine) (f : Forward) (h : Answer) (gs : List Gear) (left : ℕ) : Type 0 where
  pub stands : Stands before (machine_heard m (Some f) h) gs left
  pub running : stage_of (machine_heard m (Some f) h).trace ≡ stage.Free → ⊥

abbrev First : List Gear → ℕ → Machine → List Gear → Type 0
First before left m gs = IsFresh before m gs left

abbrev HeardSo : List Gear → ℕ → Machine → ℕ → Forward → Answer → List Gear → Type 0
HeardSo before left m p f h gs = Hears before m f h gs left

abbrev Next : List Gear → ℕ → Machine → Order → List Gear → Type 0
Next before left m o gs = IsNext before m o gs left

abbrev pub Holds : List Gear → Machine → Option Order → Option Input → List Gear → ℕ → Type 0
Holds before m last told gs left = HoldsBy (First before left) (HeardSo before left) (Next before left) m last told gs

-- ---------------------------------------------------------------- the controller acts

-- how many events come before the next frame is sent, at the most
abbrev pub slack : Option Order → Option Input → ℕ
slack None told = 1
slack (Some (Put p f)) None = 0
slack (Some (Put p f)) (Some i) = 2
slack (Some (Commit x)) told = 1
slack (Some (Done e)) told = 0
slack (Some (Halt why)) told = 0

pub slack_first : (o : Order) (c : Course) → o ≡ beginning c → slack (Some o) None ≡ 0
slack_first o c is = rw is refl

pub slack_one : (o : Order) → slack (Some o) None ≤ 1
slack_one (Put p f) = omega arith
slack_one _ = omega arith

-- what is to come of its order, and that events before the next frame are one less
abbrev ActsTo : List Gear → Machine → Order → List Gear → ℕ → Option Order → Option Input → Type 0
ActsTo before n o gs left last told = IsNext before n o gs left × (slack (Some o) None + 1 ≤ slack last told)

one_less : (x : ℕ) → x ≡ 0 → x + 1 ≤ 1
one_less x none = omega (arith, none)

first_acts : (before : List Gear) (m : Machine) (o : Order) (gs : List Gear) (left : ℕ) → m.last ≡ None → IsGivenBy m o → IsFresh before m gs left
    → ActsTo before (machine_ordered m o) o gs left None (Some input.Start)
first_acts before m o gs left is g v = (
  started before m o gs left g v.calm v.tabled v.free is v.nothing v.unopened v.opening v.frames,
  one_less (slack (Some o) None) (slack_first o (next_course m) (started_begins m o g v.calm v.free is)),
)

one_more : (x : ℕ) → x ≤ 1 → x + 1 ≤ 2
one_more x less = omega (arith, less)

-- that it does, and with how many frames left
abbrev pub of_start : List Gear → Measure
of_start before = record { by = false; known = λ k m. Unit {0}; holds = Holds before; slack = slack; events = λ left. 3 * left }

pub start_acts : (before : List Gear) (w : World) (q c : ℕ) (m : Machine) (i : Input) (o : Order) (left : ℕ) → Goes (of_start before) w q c m left
    → Succeeds false i → Allowed w (event.Acted c i o) → IsGivenBy (machine_told m i) o → IsKept (controller_at w c).records
    → Unit {0} × Holds before (machine_after m i o) (Some o) None w.gear left × (slack (Some o) None + 1 ≤ slack_at (of_start before) w c)
start_acts before w q c m i o left goes good here by known =
    (tt, holds_next (First before left) (HeardSo before left) (Next before left) (machine_after m i o) o w.gear out.0, out.1) where
      kept : IsKept m.kept
      kept = subst IsKept (sym goes.lone.kept) known

      out : ActsTo before (machine_after m i o) o w.gear left (controller_at w c).last (controller_at w c).told
      out =
          acts_from (First before left) (HeardSo before left) (Next before left) false (λ j n. Unit {0})
          (λ l t n. ActsTo before (machine_ordered n o) o w.gear left l t) w q c m i o (λ last given none v. first_acts before m o w.gear left last given v)
          (λ p f h is given none hears. (
            turned before (machine_heard m (Some f) h) o w.gear left given hears.stands kept (put_no_enrolment p f m.last is) hears.running,
            one_more (slack (Some o) None) (slack_one o),
          )) (λ x is free given none next. (
            committed before m x o w.gear left next.0 next.1 free is kept.reserved given,
            one_less (slack (Some o) None) (slack_first o (next_course (with_kept m x))
                (committed_begins before m x o w.gear left next.0 next.1 free is kept.reserved given)),
          )) goes.lone good here.due by tt goes.holds

-- ---------------------------------------------------------------- its frame is sent

-- no stage on the way is one of a search that led to no gear
never_silent : (p : Purpose) (s : Stage) (k : Kept) (opened o : Bool) (x : Search) (n : SearchAddress) (gs : List Gear) (left : ℕ) → At p s k opened x n gs left
    → silent_after s o 0 ≡ 0
never_silent Opening (stage.Unanswered r) k opened o x n gs left at = absurd at.1.stage_is
never_silent Opening (stage.Inconclusive r other) k opened o x n gs left at = absurd at.1.stage_is
never_silent Probing (stage.Unanswered r) k opened o x n gs left at = absurd at.1.stage_is
never_silent Probing (stage.Inconclusive r other) k opened o x n gs left at = absurd at.1.stage_is
never_silent Visiting (stage.Unanswered r) k opened o x n gs left at = absurd at.1.stage_is
never_silent Visiting (stage.Inconclusive r other) k opened o x n gs left at = absurd at.1.stage_is
never_silent (Closing e) (stage.Unanswered r) k opened o x n gs left at = absurd at.stage_is
never_silent (Closing e) (stage.Inconclusive r other) k opened o x n gs left at = absurd at.stage_is
never_silent _ (stage.Unanswered r) k opened o x n gs left at = absurd at
never_silent _ (stage.Inconclusive r other) k opened o x n gs left at = absurd at
never_silent p (stage.Withdrawn r a) k opened o x n gs left at = refl
never_silent p _ k opened o x n gs left at = refl

-- the machine stands so once it is told what was heard
stands_heard : (before : List Gear) (m : Machine) (f : Forward) (h : Answer) (gs : List Gear) (numbers : List ℕ) (left l : ℕ) → Stands before m gs left
    → IsLawful m.trace f → IsTabledTo before (stage_of m.trace) m.course.number m.kept.enrolled gs numbers (command_of f) h
    → At m.course.purpose (next_stage (stage_of m.trace) (command_of f) h) m.kept m.course.opened m.course.search m.course.number
    (row_after Everyone (command_of f) 0 gs numbers) l → Stands before (machine_heard m (Some f) h) (row_after Everyone (command_of f) 0 gs numbers) l
stands_heard before m f h gs numbers left l st lawful tabled at =
    let more : stage_of (m.trace ++ entry f h ∷ []) ≡ next_stage (stage_of m.trace) (command_of f) h = stage_more m.trace (entry f h) in
    record {
      tries = no_tries _ m.tries st.tries;
      fresh = st.fresh;
      silent = rw (more, st.silent) (never_silent m.course.purpose (next_stage (stage_of m.trace) (command_of f) h) m.kept m.course.opened m.course.opened
          m.course.search m.course.number (row_after Everyone (command_of f) 0 gs numbers) l at);
      trace = subst (λ s. IsTrace s (m.trace ++ entry f h ∷ [])) (sym more) (trace_more (stage_of m.trace) m.trace f h lawful st.trace);
      within = st.within;
      tabled = subst (λ s. AreTabled before (to_come s m.course.number m.kept.enrolled) (row_after Everyone (command_of f) 0 gs numbers)) (sym more) tabled;
      at = rw more at;
    }

pub start_sends : (before : List Gear) (w : World) (q c : ℕ) (m : Machine) (p : ℕ) (f : Forward) (h : Answer) (left : ℕ) → Goes (of_start before) w q c m left
    → m.last ≡ Some (Put p f) → (controller_at w c).told ≡ None → Allowed w (event.Sent c f h) → IsKnown w c f h
    → h ≡ heard_of (answers_of Everyone (command_of f) 0 w.gear)
    → (l : ℕ) × (left ≡ suc l) × Unit {0} × Hears before m f h (row_after Everyone (command_of f) 0 w.gear w.left) l
start_sends before w q c m p f h left goes last told here known heard =
    let lone = lone_sent w q c m p f h goes.lone last told in
    let holds : IsNext before m (Put p f) w.gear left = rw (sym goes.lone.last ∙ last, told) at goes.holds in
    let same : w.trace ≡ m.trace = lone.3 in
    let sent =
    at_sent m.course.purpose (stage_of m.trace) m.kept m.course.opened m.course.search m.course.number w.gear w.left left
    (command_of f) h holds.0.at holds.1 (taken_of w c f h here known heard) (subst (λ t. Seeks (stage_of t) w.gear) same known.seeks) in
    let tabled =
    at_tabled before m.course.purpose (stage_of m.trace) m.kept m.course.opened _ m.course.search m.course.number w.gear w.left left sent.0
    (command_of f) h holds.0.at holds.1 (subst (λ t. Seeks (stage_of t) w.gear) same known.seeks) sent.2 holds.0.tabled in
    let lawful : IsLawful m.trace f = lawful_now w c m.trace f h lone.2 here in (
      sent.0,
      sent.1,
      tt,
      record { stands = stands_heard before m f h w.gear w.left left sent.0 holds.0 lawful tabled sent.2; running = not_free m.trace (entry f h) },
    )

-- THE FIRST ARGUMENT, its start, and its end.

pub argument : (before : List Gear) → Argument (of_start before)
argument before = record {
  acts = λ s c m i o left run now goes good here given whole.
      start_acts before (world s) s.queue c m i o left goes good here given (kept_now s c run goes.lone.up);
  sends = λ s c m p f h left run goes last told here known heard. start_sends before (world s) s.queue c m p f h left goes last told here known heard;
  spends = λ p f h rest left is. omega (arith, is);
  halts = λ m why gs left holds. holds;
  first = refl;
}

-- THE START
pub starts : (s : SiteState) (c : ℕ) → BeginsAlone ByStart s c → Runs (of_start (world s).gear) s c (111 * bare s + 10)
starts s c a =
    runs_first (of_start (world s).gear).known (with_left (of_start (world s).gear) (111 * bare s + 10)) s c a.0 tt
    (subst (λ k. IsFresh (world s).gear (at_first c k) (world s).gear (111 * bare s + 10)) (sym a.1) (record {
      calm = record { tries = refl; fresh = refl; silent = refl; within = λ x has. absurd has };
      tabled = λ g b in_row short. inl short;
      free = refl;
      nothing = refl;
      unopened = refl;
      opening = refl;
      frames = omega arith;
    }))

-- what an end leaves, if the site was once as s
pub ended_by : (s after : SiteState) (c left : ℕ) (e : End) → Runs (of_start (world s).gear) after c left → HasEnded after c e
    → IsTrueEnd ByStart s after c e × NamesAll false s (table_at after c) after
ended_by s after c left e r ended =
    subst (λ (k : Kept). EndsWell e k (world after).gear × AreTabled (world s).gear k.enrolled (world after).gear) r.goes.lone.kept
    (held_ended (of_start (world s).gear) after c left e r ended).0
