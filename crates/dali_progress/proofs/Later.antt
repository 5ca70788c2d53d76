use Rattle.dali_progress.proofs.Below.{◌≡◌, ℕ, refl, sym, ap, ◌∙◌, Some, None, Bool, true, false, Option, ◌==◌, if◌then◌else◌, LATER, short_of, Answer, Silence}
use Rattle.dali_progress.proofs.Below.{Byte, Damaged, Forward, SearchAddress, MASK, Command, stage_of, named, queried, verified, Put, Stage, Course, turn_of}
use Rattle.{dali_progress.proofs.Below.{Machine, course_on, asked_on, machine_ordered, asked_by, Purpose, Asking, Hunting}, dali_script.specs.Stages.answered}
use Rattle.dali_script.specs.declared.stage.Stage.TheVariants as stage

pub some_same : {A : Type 0} (x y : A) → Some x ≡ Some y → x ≡ y
some_same x y same = cc

pub asked_none : (opened : Bool) (n : ℕ) → n ≡ 0 → asked_by opened n ≡ 0
asked_none true n none = refl
asked_none false n none = none

-- A LATER FRAME LEAVES THE COURSE, but for the next question of a hunt.

abbrev pub IsUnasked : Stage → Purpose → Type 0
IsUnasked (stage.Hunted r (Some h) left) Hunting = ⊥
IsUnasked s p = Unit {0}

pub unasked_but : (s : Stage) (p : Purpose) → (p ≡ Hunting → ⊥) → IsUnasked s p
unasked_but (stage.Hunted r (Some h) left) Hunting other = absurd (other refl)
unasked_but (stage.Hunted r (Some h) left) _ other = tt
unasked_but _ p other = tt

pub asking_unasked : (s : Stage) (p : Purpose) (b : ℕ) → p ≡ Asking b → IsUnasked s p
asking_unasked s p b is = unasked_but s p (λ e. (let never : Asking b ≡ Hunting = sym is ∙ e in cc))

asked_stays : (t : Machine) (r : SearchAddress) (h : Answer) (left : ℕ) (p : Purpose) → IsUnasked (stage.Hunted r (Some h) left) p → asked_on t p h ≡ t.course
asked_stays t r h left Hunting unasked = absurd unasked
asked_stays t r h left _ unasked = refl

pub stays_at : (t : Machine) (s : Stage) → IsUnasked s t.course.purpose → course_on t s ≡ t.course
stays_at t (stage.Hunted r (Some h) left) unasked = asked_stays t r h left t.course.purpose unasked
stays_at t _ unasked = refl

pub course_stays : (t : Machine) (s : Stage) → stage_of t.trace ≡ s → IsUnasked s t.course.purpose → course_on t (stage_of t.trace) ≡ t.course
course_stays t s at unasked = ap (course_on t) at ∙ stays_at t s unasked

pub later_leaves : (t : Machine) (f : Forward) (s : Stage) → stage_of t.trace ≡ s → IsUnasked s t.course.purpose
    → machine_ordered t (Put LATER f) ≡ record t { last = Some (Put LATER f); asked = asked_by t.course.opened t.asked }
later_leaves t f s at unasked =
    ap (λ (c : Course). record t { last = Some (Put LATER f); course = c; asked = asked_by c.opened t.asked }) (course_stays t s at unasked)

-- the next frame of a transaction is none
pub turn_unasked : (p : Purpose) (n : SearchAddress) (s : Stage) (c : Command) → turn_of p n s ≡ Some c → IsUnasked s p
turn_unasked p n s c turn = go s turn where
  go : (s : Stage) → turn_of p n s ≡ Some c → IsUnasked s p
  go (stage.Hunted r (Some h) left) turn =
      unasked_but (stage.Hunted r (Some h) left) p (λ e. (let never : None ≡ Some c = sym (ap (λ x. turn_of x n (stage.Hunted r (Some h) left)) e) ∙ turn in
      cc))
  go _ turn = tt

-- ---------------------------------------------------------------- after a QUERY SHORT ADDRESS

-- whatever is answered
pub queried_by : (P : Stage → Type 0) (r : SearchAddress) → ((b : ℕ) → P (stage.Found r b)) → P (stage.Unnamed r) → P (stage.Unanswered r)
    → ((o : Option ℕ) → P (stage.Inconclusive r o)) → (h : Answer) → P (queried r h)
queried_by P r found unnamed silent other Silence = silent
queried_by P r found unnamed silent other Damaged = other None
queried_by P r found unnamed silent other (Byte v) = go (short_of v) (v == MASK) where
  go : (o : Option ℕ) (m : Bool) → P (named r o m)
  go (Some b) m = found b
  go None true = unnamed
  go None false = other None

pub verified_by : (P : Stage → Type 0) (r : SearchAddress) (a : ℕ) → P (stage.Confirmed r a) → ((o : Option ℕ) → P (stage.Inconclusive r o)) → (h : Answer)
    → P (verified r a h)
verified_by P r a same other Silence = other None
verified_by P r a same other Damaged = other None
verified_by P r a same other (Byte v) = go (short_of v) where
  go : (o : Option ℕ) → P (answered r a o)
  go None = other None
  go (Some b) = by (b == a) where
    by : (m : Bool) → P (if m then stage.Confirmed r a else stage.Inconclusive r (Some b))
    by true = same
    by false = other (Some b)
