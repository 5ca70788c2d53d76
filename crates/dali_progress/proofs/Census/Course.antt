use Rattle.dali_progress.proofs.Below.{◌≡◌, ℕ, ◌+◌, ◌≤◌, ◌⊎◌, inl, inr, Bool, true, false, [], refl, ap, ◌∙◌, arith, Some, ◌==◌, if◌then◌else◌, ◌*◌, List, ◌∷◌}
use Rattle.dali_progress.proofs.Below.{sym, subst, Option, None, zero, suc, FIRST, LATER, Answer, Silence, Forward, stage_of, Order, Put, Commit, Done, Halt}
use Rattle.dali_progress.proofs.Below.{Fault, Input, Record, Reserve, Stage, due_after, accepts, frame_put, record_ordered, Kept, stage_none, Course, Machine}
use Rattle.dali_progress.proofs.Below.{at_first, machine_told, machine_heard, machine_committed, next_course, begins_at, at_rest, course_on, asked_on}
use Rattle.dali_progress.proofs.Below.{IsAllowed, machine_ordered, asked_by, IsGiven, machine_after, Purpose, Asking, Hunting, Surveying, IsWhole, hunted_keeps}
use Rattle.dali_progress.proofs.Below.{keeps_way, was_sent, was_lost, IsSurveyed, BeginsBySurvey, AreWhole, frames_asked, frames_lost, IsSteady, AreSteady}
use Rattle.dali_progress.proofs.{Below.{Step, IsTaken, IsCourse}, Census.Asked.{by_order, moved_left, still_left, same_left, Leaves, sent_left}}
use Rattle.dali_progress.proofs.Census.Left.{of_purpose, of_purpose_most, of_last, beyond, left, quiet, goes_moves, StaysOrMoves, begins_moves, on_moves}
use Rattle.dali_progress.proofs.{Census.Left.{few_askings, Moves, waits, granted, beyond_most}, Accounted.told_keeps}
use Rattle.dali_script.specs.declared.orders.Input.TheVariants as input
use Rattle.dali_script.specs.declared.stage.Stage.TheVariants as stage
use Rattle.dali_script.specs.declared.orders.Due.TheVariants as due
use Rattle.dali_script.specs.declared.orders.Fault.TheVariants as fault

-- A CENSUS IS BOUNDED: what an order leaves at every other step, and if no survey counts.

-- ---------------------------------------------------------------- every other step

-- whether a transaction asks a short address
abbrev pub Rests : Purpose → Type 0
Rests p =
    ((u k : ℕ) (s : Stage) → of_purpose u k p s ≡ 0) × ((h : Answer) → was_sent (input.Heard h) p ≡ 0) × (was_lost input.Destroyed p ≡ 0)
    × (was_lost input.Lapsed p ≡ 0)

pub asking_or : (p : Purpose) → ((a : ℕ) × (p ≡ Asking a)) ⊎ Rests p
asking_or (Asking a) = inl (a, refl)
asking_or _ = inr ((λ u k s. refl), (λ h. refl), refl, refl)

-- whatever is ordered: no more than to one address and to those that were not looked at
pub any_left : (u : ℕ) (t : Machine) → t.course.way ≡ Surveying → (o : Order) → IsAllowed t o
    → Leaves u t (machine_ordered t o) (beyond u t.course.from + (u + 2))
any_left u t surveys =
    by_order t (λ o. Leaves u t (machine_ordered t o) (beyond u t.course.from + (u + 2))) (λ f. by (machine_ordered t (Put FIRST f)) (next_course t) refl
    (of_purpose_most u (machine_ordered t (Put FIRST f)).asked (next_course t).purpose (stage_of [])) (begins_moves t (stage_of t.trace) surveys))
    (λ f running. by (machine_ordered t (Put LATER f)) (course_on t (stage_of t.trace)) refl
    (of_purpose_most u (machine_ordered t (Put LATER f)).asked (course_on t (stage_of t.trace)).purpose (stage_of t.trace))
    (on_moves t (stage_of t.trace) surveys)) (λ x. same (machine_ordered t (Commit x)) refl (omega arith))
    (λ e. same (machine_ordered t (Done e)) refl (omega arith)) (λ w. same (machine_ordered t (Halt w)) refl (omega arith)) where
      same : (n : Machine) → n.course ≡ t.course → of_last u n n.last ≤ u + 2 → Leaves u t n (beyond u t.course.from + (u + 2))
      same n is most = still_left u t n (beyond u t.course.from + (u + 2)) is (rw (same_left u t n is surveys) (omega (arith, most)))

      by : (n : Machine) (d : Course) → n.course ≡ d → of_last u n n.last ≤ u + 2 → StaysOrMoves t.course d → Leaves u t n (beyond u t.course.from + (u + 2))
      by n d is most (inl stays) = same n (is ∙ stays) most
      by n d is most (inr moves) = let fewer = moved_left u t n d is moves in omega (arith, fewer)

-- if nothing is asked
pub calm_left : (u : ℕ) (t : Machine) → t.course.way ≡ Surveying → ((k j : ℕ) (s : Stage) → of_purpose k j t.course.purpose s ≡ 0) → (o : Order) → IsAllowed t o
    → Leaves u t (machine_ordered t o) (beyond u t.course.from)
calm_left u t surveys calm =
    by_order t (λ o. Leaves u t (machine_ordered t o) (beyond u t.course.from))
    (λ f. by (machine_ordered t (Put FIRST f)) (next_course t) refl (λ is. rw is (calm u (asked_by t.course.opened t.asked) (stage_of [])))
    (begins_moves t (stage_of t.trace) surveys)) (λ f running. by (machine_ordered t (Put LATER f)) (course_on t (stage_of t.trace)) refl
    (λ is. rw is (calm u (asked_by t.course.opened t.asked) (stage_of t.trace))) (on_moves t (stage_of t.trace) surveys))
    (λ x. same (machine_ordered t (Commit x)) refl refl) (λ e. same (machine_ordered t (Done e)) refl refl)
    (λ w. same (machine_ordered t (Halt w)) refl refl) where
      same : (n : Machine) → n.course ≡ t.course → of_last u n n.last ≡ 0 → Leaves u t n (beyond u t.course.from)
      same n is none = still_left u t n (beyond u t.course.from) is (rw (same_left u t n is surveys, none) (omega arith))

      by : (n : Machine) (d : Course) → n.course ≡ d → (d ≡ t.course → of_last u n n.last ≡ 0) → StaysOrMoves t.course d → Leaves u t n (beyond u t.course.from)
      by n d is none (inl stays) = same n (is ∙ stays) (none stays)
      by n d is none (inr moves) = moved_left u t n d is moves

-- once a record is kept another transaction begins
pub kept_left : (u : ℕ) (t : Machine) (x : Record) → t.course.way ≡ Surveying → t.last ≡ Some (Commit x) → t.trace ≡ [] → (o : Order) → IsAllowed t o
    → Leaves u t (machine_ordered t o) (beyond u t.course.from)
kept_left u t x surveys last free =
    by_order t (λ o. Leaves u t (machine_ordered t o) (beyond u t.course.from)) first (λ f running. absurd (running free))
    (λ y. same (machine_ordered t (Commit y)) refl refl) (λ e. same (machine_ordered t (Done e)) refl refl)
    (λ w. same (machine_ordered t (Halt w)) refl refl) where
      same : (n : Machine) → n.course ≡ t.course → of_last u n n.last ≡ 0 → Leaves u t n (beyond u t.course.from)
      same n is none = still_left u t n (beyond u t.course.from) is (rw (same_left u t n is surveys, none) (omega arith))

      moves : (y : Record) → Moves t.course (at_rest t (Some (Commit y)))
      moves (Reserve a n) = quiet surveys refl refl (λ u k s. refl)
      moves _ = goes_moves t surveys

      first : (f : Forward) → Leaves u t (machine_ordered t (Put FIRST f)) (beyond u t.course.from)
      first f =
          let at : stage_of t.trace ≡ stage.Free = ap stage_of free ∙ stage_none in
          let on : next_course t ≡ at_rest t (Some (Commit x)) = ap (begins_at t) at ∙ ap (at_rest t) last in
          moved_left u t (machine_ordered t (Put FIRST f)) (at_rest t (Some (Commit x))) on (moves x)

-- ---------------------------------------------------------------- the way stays

asks_way : (t : Machine) (p : Purpose) (h : Answer) → (asked_on t p h).way ≡ t.course.way
asks_way t Hunting h = (hunted_keeps t h).way
asks_way t _ h = refl

on_way : (t : Machine) (s : Stage) → (course_on t s).way ≡ t.course.way
on_way t (stage.Hunted r (Some h) left) = asks_way t t.course.purpose h
on_way t _ = refl

pub ordered_way : (t : Machine) (o : Order) → (machine_ordered t o).course.way ≡ t.course.way
ordered_way t (Put p f) = go (p == FIRST) where
  go : (b : Bool) → (if b then next_course t else course_on t (stage_of t.trace)).way ≡ t.course.way
  go true = keeps_way t
  go false = on_way t (stage_of t.trace)
ordered_way t (Commit x) = refl
ordered_way t (Done e) = refl
ordered_way t (Halt w) = refl

pub ordered_askings : (t : Machine) (o : Order) → t.course.way ≡ Surveying → t.course.tally.askings ≤ 6 → (machine_ordered t o).course.tally.askings ≤ 6
ordered_askings t (Put p f) is few = go (p == FIRST) where
  go : (b : Bool) → (if b then next_course t else course_on t (stage_of t.trace)).tally.askings ≤ 6
  go true = few_askings t.course (next_course t) (begins_moves t (stage_of t.trace) is) few
  go false = few_askings t.course (course_on t (stage_of t.trace)) (on_moves t (stage_of t.trace) is) few
ordered_askings t (Commit x) is few = few
ordered_askings t (Done e) is few = few
ordered_askings t (Halt w) is few = few

-- A CENSUS IS BOUNDED: each step, and all of a course.

-- ---------------------------------------------------------------- a step

-- a record that is outstanding ended the transaction before it
abbrev pub IsAlone : Machine → Type 0
IsAlone m = (x : Record) → m.last ≡ Some (Commit x) → m.trace ≡ []

pub alone_after : (t : Machine) (o : Order) → IsAlone (machine_ordered t o)
alone_after t (Commit y) x is = refl
alone_after t _ x is = absurd (cc)

pub put_is : (last : Option Order) (i : Input) → accepts due.Bus i ≡ true → accepts (due_after last) i ≡ true
    → (p : ℕ) × (f : Forward) × (last ≡ Some (Put p f))
put_is (Some (Put p f)) i bus e = (p, f, refl)
put_is None (input.Heard h) bus e = absurd (cc)
put_is (Some (Commit x)) (input.Heard h) bus e = absurd (cc)
put_is _ _ bus e = absurd (cc)

pub commit_is : (last : Option Order) → accepts (due_after last) input.Committed ≡ true → (x : Record) × (last ≡ Some (Commit x))
commit_is (Some (Commit x)) e = (x, refl)
commit_is _ e = absurd (cc)

pub started : (last : Option Order) (i : Input) → accepts due.Start i ≡ true → accepts (due_after last) i ≡ true → last ≡ None
started None i start e = refl
started (Some (Put p f)) input.Start start e = absurd (cc)
started (Some (Commit x)) input.Start start e = absurd (cc)
started _ _ start e = absurd (cc)

-- an answer that is counted: silence, or one for which enough frames are left
abbrev IsCounted : ℕ → Machine → Input → Type 0
IsCounted u m i = (h : Answer) → i ≡ input.Heard h → (h ≡ Silence) ⊎ (3 ≤ waits u m.asked)

-- WHAT A STEP SENDS of a census it makes fewer
abbrev Counts : ℕ → Machine → Input → Machine → Type 0
Counts u m i n =
    was_sent i m.course.purpose + left u n + granted u m.course.tally.askings ≤ left u m +
    (u + 2) * was_lost i m.course.purpose + granted u n.course.tally.askings

no_more : (n : ℕ) → n * 0 ≡ 0
no_more n = omega arith

lost_counts : (u : ℕ) (m t : Machine) (i : Input) (o : Order) → t.course ≡ m.course → m.course.way ≡ Surveying
    → ((a : ℕ) → m.course.purpose ≡ Asking a → (was_sent i m.course.purpose ≡ 0) × (was_lost i m.course.purpose ≡ 1))
    → (Rests m.course.purpose → (was_sent i m.course.purpose ≡ 0) × (was_lost i m.course.purpose ≡ 0)) → IsAllowed t o → Counts u m i (machine_ordered t o)
lost_counts u m t i o same surveys asks rests may = go (asking_or m.course.purpose) where
  way : t.course.way ≡ Surveying
  way = ap (λ (c : Course). c.way) same ∙ surveys

  from : beyond u t.course.from ≡ beyond u m.course.from
  from = ap (λ (c : Course). beyond u c.from) same

  askings : granted u t.course.tally.askings ≡ granted u m.course.tally.askings
  askings = ap (λ (c : Course). granted u c.tally.askings) same

  here : left u m ≡ beyond u m.course.from + of_last u m m.last
  here = same_left u m m refl surveys

  one_more : (n : ℕ) → n * 1 ≡ n
  one_more n = omega arith

  go : ((a : ℕ) × (m.course.purpose ≡ Asking a)) ⊎ Rests m.course.purpose → Counts u m i (machine_ordered t o)
  go (inl (a, is)) =
      let both = asks a is in
      let most = any_left u t way o may in
      rw (both.0, both.1, here, one_more) (omega (arith, most, from, askings))
  go (inr calm) =
      let both = rests calm in
      let fewer = calm_left u t way (λ k j s. ap (λ (c : Course). of_purpose k j c.purpose s) same ∙ calm.0 k j s) o may in
      rw (both.0, both.1, here, no_more) (omega (arith, fewer, from, askings))

heard_counts : (u : ℕ) (m : Machine) (h : Answer) (p : ℕ) (f : Forward) (o : Order) → 1 ≤ u → m.course.way ≡ Surveying → m.last ≡ Some (Put p f) → IsWhole m
    → (h ≡ Silence) ⊎ (3 ≤ waits u m.asked) → IsAllowed (machine_heard m (Some f) h) o → IsWhole (machine_ordered (machine_heard m (Some f) h) o)
    → Counts u m (input.Heard h) (machine_ordered (machine_heard m (Some f) h) o)
heard_counts u m h p f o one surveys last whole counted may after = go (asking_or m.course.purpose) where
  go : ((a : ℕ) × (m.course.purpose ≡ Asking a)) ⊎ Rests m.course.purpose → Counts u m (input.Heard h) (machine_ordered (machine_heard m (Some f) h) o)
  go (inl (a, is)) =
      let sent : was_sent (input.Heard h) m.course.purpose ≡ 1 = rw is refl in
      let fewer = sent_left u m h p f a one surveys is last whole counted o may after in
      rw (sent, no_more) (omega (arith, fewer))
  go (inr calm) =
      let sent : was_sent (input.Heard h) m.course.purpose ≡ 0 = calm.1 h in
      let fewer = calm_left u (machine_heard m (Some f) h) surveys (λ k j s. calm.0 k j s) o may in
      let here : left u m ≡ beyond u m.course.from + of_last u m m.last = same_left u m m refl surveys in
      rw (sent, no_more) (omega (arith, fewer, here))

committed_counts : (u : ℕ) (m : Machine) (x : Record) (o : Order) → m.course.way ≡ Surveying → m.last ≡ Some (Commit x) → m.trace ≡ []
    → IsAllowed (machine_committed m (Some x)) o → Counts u m input.Committed (machine_ordered (machine_committed m (Some x)) o)
committed_counts u m x o surveys last free may =
    let fewer = kept_left u (machine_committed m (Some x)) x surveys last free o may in
    let here : left u m ≡ beyond u m.course.from + of_last u m m.last = same_left u m m refl surveys in
    rw no_more (omega (arith, fewer, here))

failed_counts : (u : ℕ) (m : Machine) (w : Fault) → m.course.way ≡ Surveying → Counts u m input.CommitFailed (machine_ordered m (Halt w))
failed_counts u m w surveys =
    let there : left u (machine_ordered m (Halt w)) ≡ beyond u m.course.from + 0 = same_left u m (machine_ordered m (Halt w)) refl surveys in
    let here : left u m ≡ beyond u m.course.from + of_last u m m.last = same_left u m m refl surveys in
    rw no_more (omega (arith, there, here))

-- while it counts
survey_counts : (u : ℕ) (m : Machine) (i : Input) (o : Order) → 1 ≤ u → m.course.way ≡ Surveying → (m.last ≡ None → ⊥) → accepts (due_after m.last) i ≡ true
    → IsGiven m i o → IsWhole m → IsAlone m → IsWhole (machine_after m i o) → IsCounted u m i → Counts u m i (machine_after m i o)
survey_counts u m input.Start o one surveys running due given whole alone after counted = absurd (running (started m.last input.Start refl due))
survey_counts u m input.Survey o one surveys running due given whole alone after counted = absurd (running (started m.last input.Survey refl due))
survey_counts u m (input.Heard h) o one surveys running due given whole alone after counted =
    let put = put_is m.last (input.Heard h) refl due in
    let told : machine_told m (input.Heard h) ≡ machine_heard m (Some put.1) h = ap (λ l. machine_heard m (frame_put l) h) put.2 in
    subst (λ t. IsAllowed t o → IsWhole (machine_ordered t o) → Counts u m (input.Heard h) (machine_ordered t o)) (sym told)
    (heard_counts u m h put.0 put.1 o one surveys put.2 whole (counted h refl)) given.answered.allowed after
survey_counts u m input.Destroyed o one surveys running due given whole alone after counted =
    lost_counts u m (machine_told m input.Destroyed) input.Destroyed o refl surveys (λ a is. (refl, rw is refl)) (λ calm. (refl, calm.2))
    given.answered.allowed
survey_counts u m input.Lapsed o one surveys running due given whole alone after counted =
    lost_counts u m (machine_told m input.Lapsed) input.Lapsed o refl surveys (λ a is. (refl, rw is refl)) (λ calm. (refl, calm.3)) given.answered.allowed
survey_counts u m input.Committed o one surveys running due given whole alone after counted =
    let kept = commit_is m.last due in
    let told : machine_told m input.Committed ≡ machine_committed m (Some kept.0) = ap (λ l. machine_committed m (record_ordered l)) kept.1 in
    subst (λ t. IsAllowed t o → Counts u m input.Committed (machine_ordered t o)) (sym told)
    (committed_counts u m kept.0 o surveys kept.1 (alone kept.0 kept.1)) given.answered.allowed
survey_counts u m input.CommitFailed o one surveys running due given whole alone after counted =
    subst (λ q. Counts u m input.CommitFailed (machine_ordered m q)) (sym given.answered) (failed_counts u m fault.Store surveys)

-- the way of a survey stays
told_way : (m : Machine) (i : Input) → m.course.way ≡ Surveying → (machine_told m i).course.way ≡ Surveying
told_way m i is = told_keeps (λ t. t.course.way ≡ Surveying) m i is refl (λ f h. is) is (λ x. is)

told_few : (m : Machine) (i : Input) → m.course.tally.askings ≤ 6 → (machine_told m i).course.tally.askings ≤ 6
told_few m i few = told_keeps (λ t. t.course.tally.askings ≤ 6) m i few (omega arith) (λ f h. few) few (λ x. few)

-- ---------------------------------------------------------------- a course

abbrev AreCounted : ℕ → List Step → Type 0
AreCounted u [] = Unit {0}
AreCounted u (s ∷ earlier) = IsCounted u s.before s.told × AreCounted u earlier

record Bounded (u : ℕ) (steps : List Step) (n : Machine) : Type 0 where
  running : n.last ≡ None → ⊥
  alone : IsAlone n
  surveys : n.course.way ≡ Surveying
  few : n.course.tally.askings ≤ 6
  frames : frames_asked steps + left u n ≤ (u + 2) * 64 + (u + 2) * frames_lost steps + granted u n.course.tally.askings

pub runs_after : (t : Machine) (o : Order) → (machine_ordered t o).last ≡ None → ⊥
runs_after t o e = cc

surveys_first : (s : Step) → IsSurveyed s → (machine_told s.before s.told).course.way ≡ Surveying
surveys_first s begins = ap (λ i. (machine_told s.before i).course.way) begins.0

first_bounded : (u : ℕ) (s : Step) (n : Machine) → IsSurveyed s → IsTaken s n → Bounded u (s ∷ []) n
first_bounded u s n begins taken =
    subst (λ (x : Machine). Bounded u (s ∷ []) x) (sym taken.after) (record {
      running = runs_after (machine_told s.before s.told) s.order;
      alone = alone_after (machine_told s.before s.told) s.order;
      surveys = ordered_way (machine_told s.before s.told) s.order ∙ surveys_first s begins;
      few = ordered_askings (machine_told s.before s.told) s.order (surveys_first s begins)
          (subst (λ i. (machine_told s.before i).course.tally.askings ≤ 6) (sym begins.0) (omega arith));
      frames = from s.before s.told begins.1.0 begins.1.1 begins.1.2 begins.0 taken.given;
    }) where
      Few : Machine → Input → Type 0
      Few m i =
          (was_sent i m.course.purpose + 0) + left u (machine_after m i s.order) ≤ (u + 2) * 64 + (u + 2) * (was_lost i m.course.purpose + 0) + granted u
          (machine_after m i s.order).course.tally.askings

      from : (m : Machine) (i : Input) (id : ℕ) (k : Kept) → m ≡ at_first id k → i ≡ input.Survey → IsGiven m i s.order → Few m i
      from m i id k is told given =
          subst (λ (x : Machine). IsGiven x i s.order → Few x i) (sym is)
          (subst (λ j. IsGiven (at_first id k) j s.order → Few (at_first id k) j) (sym told) (λ g.
          let fewer = calm_left u (machine_told (at_first id k) input.Survey) refl (λ a b c. refl) s.order g.answered.allowed in
          let most : beyond u 0 ≤ (u + 2) * 64 = beyond_most u 0 in
          let first : granted u 0 ≡ 0 = no_more ((u + 2) * 64) in
          rw no_more (omega (arith, fewer, most, first)))) given

more_bounded : (u : ℕ) (s : Step) (earlier : List Step) (n : Machine) → 1 ≤ u → Bounded u earlier s.before → IsTaken s n → IsWhole s.before → IsWhole n
    → IsCounted u s.before s.told → Bounded u (s ∷ earlier) n
more_bounded u s earlier n one before taken whole after counted =
    subst (λ (x : Machine). IsWhole x → Bounded u (s ∷ earlier) x) (sym taken.after) (λ w. record {
      running = runs_after (machine_told s.before s.told) s.order;
      alone = alone_after (machine_told s.before s.told) s.order;
      surveys = ordered_way (machine_told s.before s.told) s.order ∙ told_way s.before s.told before.surveys;
      few = ordered_askings (machine_told s.before s.told) s.order (told_way s.before s.told before.surveys) (told_few s.before s.told before.few);
      frames = sum (was_sent s.told s.before.course.purpose) (frames_asked earlier) (left u (machine_after s.before s.told s.order)) (left u s.before)
          ((u + 2) * 64) (u + 2) (was_lost s.told s.before.course.purpose) (frames_lost earlier) (granted u s.before.course.tally.askings)
          (granted u (machine_after s.before s.told s.order).course.tally.askings)
          (survey_counts u s.before s.told s.order one before.surveys before.running taken.due taken.given whole before.alone w counted) before.frames;
    }) after where
      times : (m a b : ℕ) → m * (a + b) ≡ m * a + m * b
      times m a b = omega arith

      sum : (sent asked now before_it top m lost old was_granted is_granted : ℕ) → sent + now + was_granted ≤ before_it + m * lost + is_granted
          → asked + before_it ≤ top + m * old + was_granted → (sent + asked) + now ≤ top + m * (lost + old) + is_granted
      sum sent asked now before_it top m lost old was_granted is_granted step was = rw times (omega (arith, step, was))

bounded : (u : ℕ) (steps : List Step) (n : Machine) → 1 ≤ u → IsCourse steps n → BeginsBySurvey steps → AreWhole steps → IsWhole n → AreCounted u steps
    → Bounded u steps n
bounded u [] n one course begins are whole counted = elim begins [ ]
bounded u (s ∷ []) n one course begins are whole counted = first_bounded u s n begins course.1
bounded u (s ∷ (r ∷ earlier)) n one course begins are whole counted =
    more_bounded u s (r ∷ earlier) n one (bounded u (r ∷ earlier) s.before one course.0 begins are.1 are.0 counted.1) course.1 are.0 whole counted.0

-- the gear that may be silent twice
always_counted : (m : Machine) (i : Input) → IsCounted 3 m i
always_counted m i h is = inr (go m.asked) where
  go : (k : ℕ) → 3 ≤ waits 3 k
  go zero = omega arith
  go (suc zero) = omega arith
  go (suc (suc k)) = omega arith

all_counted : (steps : List Step) → AreCounted 3 steps
all_counted [] = tt
all_counted (s ∷ earlier) = (always_counted s.before s.told, all_counted earlier)

pub any_bounded : (steps : List Step) (n : Machine) → IsCourse steps n → BeginsBySurvey steps → AreWhole steps → IsWhole n
    → frames_asked steps ≤ 320 * (1 + n.course.tally.askings) + 5 * frames_lost steps
any_bounded steps n course begins are whole =
    let most : frames_asked steps + left 3 n ≤ 320 + 5 * frames_lost steps + 320 * n.course.tally.askings =
    (bounded 3 steps n (omega arith) course begins are whole (all_counted steps)).frames in
    omega (arith, most)

-- no gear answers that was silent
same_answer : (h k : Answer) → input.Heard h ≡ input.Heard k → h ≡ k
same_answer h k same = cc

steady_counted : (s : Step) → IsSteady s → IsCounted 1 s.before s.told
steady_counted s (inl silent) h is = inl (same_answer h Silence (sym is ∙ silent))
steady_counted s (inr none) h is = inr (rw none (omega arith))

all_steady : (steps : List Step) → AreSteady steps → AreCounted 1 steps
all_steady [] are = tt
all_steady (s ∷ earlier) are = (steady_counted s are.0, all_steady earlier are.1)

pub steady_bounded : (steps : List Step) (n : Machine) → IsCourse steps n → BeginsBySurvey steps → AreWhole steps → IsWhole n → AreSteady steps
    → frames_asked steps ≤ 192 * (1 + n.course.tally.askings) + 3 * frames_lost steps
steady_bounded steps n course begins are whole steady =
    let most : frames_asked steps + left 1 n ≤ 192 + 3 * frames_lost steps + 192 * n.course.tally.askings =
    (bounded 1 steps n (omega arith) course begins are whole (all_steady steps steady)).frames in
    omega (arith, most)

-- short addresses are asked again six times at the most
pub few_again : (steps : List Step) (n : Machine) → IsCourse steps n → BeginsBySurvey steps → AreWhole steps → IsWhole n → n.course.tally.askings ≤ 6
few_again steps n course begins are whole = (bounded 3 steps n (omega arith) course begins are whole (all_counted steps)).few
