use Rattle.std.proofs.Common.{◌≡◌, ℕ, ◌⊎◌, inl, inr, true, false, Some, refl, ap, ◌∙◌}
use Rattle.dali_frame.specs.declared.{frames.Answer.{Answer, TheVariants.Silence}, numbers.SearchAddress.SearchAddress}
use Rattle.dali_script.specs.{Stages.stage_of, declared.stage.Stage.{Stage, TheVariants.Hunted}}
use Rattle.dali_controller.specs.{Course.is_yes, Machine.Machine, Next.{course_on, asked_on, next_course}}
use Rattle.dali_controller.specs.declared.purpose.Purpose.{Purpose, TheVariants.{Calling, Hunting}}
use Rattle.dali_controller.proofs.Courses.{Keeps, IsCalledAt, keeps, hunted_keeps}

-- WHEN A ROLL CALL COUNTS AS SILENT: only after one that was.

-- a COMPARE of a roll call was heard as silence
pub record IsSilent (t : Machine) : Type 0 where
  pub number : SearchAddress
  pub left : ℕ
  pub stage : stage_of t.trace ≡ Hunted number (Some Silence) left
  pub calling : t.course.purpose ≡ Calling

-- if a transaction begins
pub next_silent : (t : Machine) → (next_course t).tally.is_silent ≡ true → (t.course.tally.is_silent ≡ true) ⊎ IsSilent t
next_silent t silent = elim (keeps t (stage_of t.trace)) [ inl k ↦ inl (k.silent silent) | inr x ↦ called x (x.calls.silent silent) ] where
  none : (h : Answer) → is_yes h ≡ false → h ≡ Silence
  none Silence e = refl
  none _ e = absurd (cc)

  called : (x : IsCalledAt t (stage_of t.trace)) → (t.course.tally.is_silent ≡ true) ⊎ (is_yes x.heard ≡ false)
      → (t.course.tally.is_silent ≡ true) ⊎ IsSilent t
  called x (inl before) = inl before
  called x (inr quiet) =
      inr (record { number = x.number; left = x.left; stage = x.stage ∙ ap (λ h. Hunted x.number (Some h) x.left) (none x.heard quiet); calling = x.calling })

-- if one goes on: nothing is counted
pub later_keeps : (t : Machine) (s : Stage) → Keeps t.course (course_on t s)
later_keeps t (Hunted r (Some h) left) = go t.course.purpose where
  go : (p : Purpose) → Keeps t.course (asked_on t p h)
  go Hunting = hunted_keeps t h
  go _ = record { way = refl; silent = λ s. s; heard = λ e. (e, refl) }
later_keeps t _ = record { way = refl; silent = λ s. s; heard = λ e. (e, refl) }

pub later_silent : (t : Machine) (s : Stage) → (course_on t s).tally.is_silent ≡ true → t.course.tally.is_silent ≡ true
later_silent t s = (later_keeps t s).silent
