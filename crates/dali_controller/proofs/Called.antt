use Rattle.std.proofs.Common.{◌≡◌, ℕ, ◌⊎◌, inl, inr, Bool, true, false, [], ◌∷◌, Option, Some, None, refl, sym, ap, subst, ◌∙◌, ◌==◌, if◌then◌else◌}
use Rattle.dali_frame.specs.{Priority.FIRST, declared.frames.{Answer.Answer, Forward.Forward}}
use Rattle.dali_script.specs.{Due.{frame_put, record_ordered}, Records.Kept, Stages.stage_of}
use Rattle.dali_script.specs.declared.orders.{End.{End, TheVariants.GaveUp}, Input.Input, Order.{Order, TheVariants.{Put, Commit, Done, Halt}}}
use Rattle.dali_script.specs.declared.records.Record.{Record}
use Rattle.dali_controller.specs.Acts.{Steps}
use Rattle.dali_controller.specs.Called.{IsAnsweredCall, machine_by, NoneDraw, HasCalled, GivesUp}
use Rattle.dali_controller.specs.Course.{Course, closing_of, is_yes}
use Rattle.dali_controller.specs.Machine.{Machine, at_first, machine_heard, machine_committed, machine_told}
use Rattle.dali_controller.specs.Next.{course_by, course_on, next_course, most_silent}
use Rattle.dali_controller.specs.Orders.{Cause, IsAnswered, IsBegun, IsCaused, IsStuck, machine_after}
use Rattle.dali_controller.specs.declared.{purpose.Purpose.{Purpose, TheVariants.Closing}, way.Way.{TheVariants.Surveying}}
use Rattle.dali_controller.proofs.{Courses.{Keeps, IsCalledAt, keeps}, Silences.later_keeps}
use Rattle.dali_script.specs.declared.orders.Input.TheVariants as input

-- BEFORE A SURVEY GIVES UP gear answered a roll call.

-- a roll call counts as answered that did so before, or was just answered, and gear draw no more often
abbrev IsHeardFrom : Machine → Course → Type 0
IsHeardFrom t c = ((t.course.tally.is_heard ≡ true) ⊎ IsAnsweredCall t) × (c.tally.draws ≡ t.course.tally.draws)

kept_heard : (t : Machine) (c : Course) → Keeps t.course c → c.tally.is_heard ≡ true → IsHeardFrom t c
kept_heard t c k heard = (inl (k.heard heard).0, (k.heard heard).1)

next_heard : (t : Machine) → (next_course t).tally.is_heard ≡ true → IsHeardFrom t (next_course t)
next_heard t heard = elim (keeps t (stage_of t.trace)) [ inl k ↦ kept_heard t (next_course t) k heard | inr x ↦ called x (x.calls.heard heard) ] where
  called : (x : IsCalledAt t (stage_of t.trace))
      → ((t.course.tally.is_heard ≡ true) ⊎ (is_yes x.heard ≡ true)) × ((next_course t).tally.draws ≡ t.course.tally.draws)
      → IsHeardFrom t (next_course t)
  called x (inl before, same) = (inl before, same)
  called x (inr said, same) =
      (inr (record { number = x.number; heard = x.heard; left = x.left; stage = x.stage; calling = x.calling; yes = said }), same)

ordered_heard : (t : Machine) (o : Order) → (course_by t o).tally.is_heard ≡ true → IsHeardFrom t (course_by t o)
ordered_heard t (Put p f) = go (p == FIRST) where
  go : (b : Bool) → (if b then next_course t else course_on t (stage_of t.trace)).tally.is_heard ≡ true
      → IsHeardFrom t (if b then next_course t else course_on t (stage_of t.trace))
  go true heard = next_heard t heard
  go false heard = kept_heard t _ (later_keeps t (stage_of t.trace)) heard
ordered_heard t _ = λ heard. (inl heard, refl)

-- an input leaves the course, but a survey begins with none counted
heard_course : (m : Machine) (o : Option Forward) (h : Answer) → (machine_heard m o h).course ≡ m.course
heard_course m (Some f) h = refl
heard_course m None h = refl

committed_course : (m : Machine) (x : Option Record) → (machine_committed m x).course ≡ m.course
committed_course m (Some x) = refl
committed_course m None = refl

told_course : (m : Machine) (i : Input) → (machine_told m i).course.tally.is_heard ≡ true → (machine_told m i).course ≡ m.course
told_course m input.Survey heard = absurd (cc)
told_course m (input.Heard h) heard = heard_course m (frame_put m.last) h
told_course m input.Committed heard = committed_course m (record_ordered m.last)
told_course m _ heard = refl

told_purpose : (m : Machine) (i : Input) → (machine_told m i).course.purpose ≡ m.course.purpose
told_purpose m (input.Heard h) = ap (λ (c : Course). c.purpose) (heard_course m (frame_put m.last) h)
told_purpose m input.Committed = ap (λ (c : Course). c.purpose) (committed_course m (record_ordered m.last))
told_purpose m _ = refl

step_heard : (m : Machine) (i : Input) (o : Order) → (machine_after m i o).course.tally.is_heard ≡ true
    → ((m.course.tally.is_heard ≡ true) ⊎ IsAnsweredCall (machine_told m i))
    × ((machine_after m i o).course.tally.draws ≡ (machine_told m i).course.tally.draws)
step_heard m i o heard = go (ordered_heard (machine_told m i) o heard) where
  go : IsHeardFrom (machine_told m i) (course_by (machine_told m i) o)
      → ((m.course.tally.is_heard ≡ true) ⊎ IsAnsweredCall (machine_told m i))
      × ((machine_after m i o).course.tally.draws ≡ (machine_told m i).course.tally.draws)
  go (inl before, same) = (inl (ap (λ (c : Course). c.tally.is_heard) (sym (told_course m i before)) ∙ before), same)
  go (inr called, same) = (inr called, same)

-- so one was answered in the steps, or counted before them
calls_by : (m : Machine) (steps : Steps) → (machine_by m steps).course.tally.is_heard ≡ true
    → ((m.course.tally.is_heard ≡ true) × NoneDraw m steps) ⊎ HasCalled m steps
calls_by m [] heard = inl (heard, tt)
calls_by m (s ∷ steps) heard = go (calls_by (machine_after m s.0 s.1) steps heard) where
  by : NoneDraw (machine_after m s.0 s.1) steps
      → ((m.course.tally.is_heard ≡ true) ⊎ IsAnsweredCall (machine_told m s.0))
      × ((machine_after m s.0 s.1).course.tally.draws ≡ (machine_told m s.0).course.tally.draws)
      → ((m.course.tally.is_heard ≡ true) × NoneDraw m (s ∷ steps)) ⊎ HasCalled m (s ∷ steps)
  by none (inl before, same) = inl (before, (same, none))
  by none (inr called, same) = inr (inl (called, (same, none)))

  go : (((machine_after m s.0 s.1).course.tally.is_heard ≡ true) × NoneDraw (machine_after m s.0 s.1) steps)
      ⊎ HasCalled (machine_after m s.0 s.1) steps
      → ((m.course.tally.is_heard ≡ true) × NoneDraw m (s ∷ steps)) ⊎ HasCalled m (s ∷ steps)
  go (inl (counted, none)) = by none (step_heard m s.0 s.1 counted)
  go (inr later) = inr (inr later)

closing_is : (p : Purpose) (e : End) → closing_of p ≡ Some e → p ≡ Closing e
closing_is (Closing x) e is = let same : x ≡ e = cc in ap Closing same
closing_is _ e is = absurd (cc)

-- the order that begins the close is a frame, and has a cause
cause_of : (m : Machine) (i : Input) (p : ℕ) (f : Forward) → IsAnswered m i (Put p f)
    → IsCaused (machine_told m i) (course_by (machine_told m i) (Put p f)) (Put p f)
cause_of m input.CommitFailed p f is = absurd (cc)
cause_of m input.Start p f is = is.caused
cause_of m input.Survey p f is = is.caused
cause_of m (input.Heard h) p f is = is.caused
cause_of m input.Destroyed p f is = is.caused
cause_of m input.Lapsed p f is = is.caused
cause_of m input.Committed p f is = is.caused

given_up : (m : Machine) (i : Input) (o : Order) → GivesUp m i o → Cause (machine_told m i) GaveUp
given_up m i o g = go o g.answered g.closes where
  same : (machine_told m i).course.purpose ≡ Closing GaveUp → ⊥
  same is = g.before (sym (told_purpose m i) ∙ is)

  begun : IsBegun (machine_told m i) (Some GaveUp) → Cause (machine_told m i) GaveUp
  begun (inl running) = absurd (same (closing_is _ GaveUp running))
  begun (inr x) = x.1

  go : (o : Order) → IsAnswered m i o → (machine_after m i o).course.purpose ≡ Closing GaveUp → Cause (machine_told m i) GaveUp
  go (Put p f) is closes = begun (subst (λ q. IsBegun (machine_told m i) (closing_of q)) closes (cause_of m i p f is).0)
  go (Commit x) is closes = absurd (same closes)
  go (Done e) is closes = absurd (same closes)
  go (Halt w) is closes = absurd (same closes)

pub surveys_call_before_they_give_up : (id : ℕ) (k : Kept) (steps : Steps) (i : Input) (o : Order) → GivesUp (machine_by (at_first id k) steps) i o
    → ((machine_told (machine_by (at_first id k) steps) i).silent ≡ 80)
    ⊎ (IsAnsweredCall (machine_told (machine_by (at_first id k) steps) i) ⊎ HasCalled (at_first id k) steps)
surveys_call_before_they_give_up id k steps i o g = go (given_up n i o g) where
  n : Machine
  n = machine_by (at_first id k) steps

  t : Machine
  t = machine_told n i

  called : t.course.tally.is_heard ≡ true → HasCalled (at_first id k) steps
  called heard = by (calls_by (at_first id k) steps (ap (λ (c : Course). c.tally.is_heard) (sym (told_course n i heard)) ∙ heard)) where
    by : ((false ≡ true) × NoneDraw (at_first id k) steps) ⊎ HasCalled (at_first id k) steps → HasCalled (at_first id k) steps
    by (inl x) = absurd (let never : false ≡ true = x.0 in cc)
    by (inr is) = is

  stuck : IsStuck t Surveying → IsAnsweredCall t ⊎ HasCalled (at_first id k) steps
  stuck (inl b) = inl (record { number = b.number; heard = b.heard; left = b.left; stage = b.stage; calling = b.calling; yes = b.yes })
  stuck (inr x) = inr (called x.2)

  go : (t.silent ≡ most_silent t.course.way) ⊎ IsStuck t t.course.way
      → (t.silent ≡ 80) ⊎ (IsAnsweredCall t ⊎ HasCalled (at_first id k) steps)
  go (inl loud) = inl (loud ∙ ap most_silent g.survey)
  go (inr is) = inr (stuck (subst (IsStuck t) g.survey is))
