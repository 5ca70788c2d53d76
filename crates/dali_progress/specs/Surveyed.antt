use Rattle.std.specs.Prelude.{◌≡◌, ℕ, ◌<◌, ◌≤◌, ◌⊎◌, true, List, [], ◌∷◌, Option, Some, None}
use Rattle.dali_frame.specs.declared.frames.Answer.{Answer}
use Rattle.dali_frame.specs.declared.frames.Answer.TheVariants.{Silence}
use Rattle.dali_frame.specs.Random.{MASK24}
use Rattle.dali_script.specs.declared.stage.Stage.{Stage}
use Rattle.dali_script.specs.declared.stage.Stage.TheVariants as stage
use Rattle.dali_script.specs.Stages.{stage_of}
use Rattle.dali_script.specs.declared.orders.Input.{Input}
use Rattle.dali_script.specs.declared.orders.Input.TheVariants as input
use Rattle.dali_script.specs.declared.records.Record.TheVariants.{Enrol}
use Rattle.dali_script.specs.Records.{Has}
use Rattle.dali_script.specs.declared.orders.Order.{Order}
use Rattle.dali_script.specs.declared.orders.Order.TheVariants.{Commit, Halt}
use Rattle.dali_script.specs.declared.orders.Fault.{Fault}
use Rattle.dali_script.specs.Due.{due_after, accepts}
use Rattle.dali_controller.specs.declared.purpose.Purpose.{Purpose}
use Rattle.dali_controller.specs.declared.purpose.Purpose.TheVariants.{Asking}
use Rattle.dali_controller.specs.declared.way.Way.TheVariants.{Fresh}
use Rattle.dali_controller.specs.Shorts.{has_short}
use Rattle.dali_controller.specs.Machine.{Machine, machine_told}
use Rattle.dali_controller.specs.Orders.{IsGiven, machine_after}

-- A COURSE OF A MACHINE, newest step first: each input is one that is due, and each order one that
-- its contract allows. Nothing is said of a bus, a store or other controllers: what is told may be
-- anything.
pub record Step : Type 0 where
  pub before : Machine
  pub told : Input
  pub order : Order

pub record IsTaken (s : Step) (n : Machine) : Type 0 where
  pub due : accepts (due_after s.before.last) s.told ≡ true
  pub given : IsGiven s.before s.told s.order
  pub after : n ≡ machine_after s.before s.told s.order

abbrev pub IsCourse : List Step → Machine → Type 0
IsCourse [] n = Unit {0}
IsCourse (s ∷ earlier) n = IsCourse earlier s.before × IsTaken s n

-- how far the running transaction is, once this was told
abbrev pub stage_told : Step → Stage
stage_told s = stage_of (machine_told s.before s.told).trace

-- GEAR IS HEARD under a short address that a survey asks, if its first query is heard as
-- anything but silence; also if a later one is not heard, since the first one was.
abbrev pub heard_at : Stage → Answer → Option ℕ
heard_at (stage.HighAsked a high) Silence = None
heard_at (stage.HighAsked a high) h = Some a
heard_at (stage.MiddleAsked a bytes) h = Some a
heard_at (stage.Spelled a number) h = Some a
heard_at _ h = None

abbrev pub heard_by : Input → Purpose → Stage → Option ℕ
heard_by (input.Heard h) (Asking b) s = heard_at s h
heard_by _ _ s = None

abbrev pub Hears : Step → ℕ → Type 0
Hears s a = heard_by s.told s.before.course.purpose (stage_told s) ≡ Some a

abbrev pub WasHeard : List Step → ℕ → Type 0
WasHeard [] a = ⊥
WasHeard (s ∷ earlier) a = Hears s a ⊎ WasHeard earlier a

-- short addresses are below 64, and three bytes are a number to FFFFFF
abbrev pub IsPlain : Stage → Type 0
IsPlain (stage.Spelled a (Some n)) = (a < 64) × (n ≤ MASK24)
IsPlain _ = Unit {0}

abbrev pub ArePlain : List Step → Type 0
ArePlain [] = Unit {0}
ArePlain (s ∷ earlier) = IsPlain (stage_told s) × ArePlain earlier

-- WHOSE ADDRESS IS ACCOUNTED FOR: it is marked, or enrolled, or about to be; or the machine has
-- halted.
abbrev pub IsAccounted : Machine → ℕ → Type 0
IsAccounted n a =
    (has_short n.heard a ≡ true)
    ⊎ (((r : ℕ) × Has n.kept.enrolled (a, r))
    ⊎ (((r : ℕ) × (n.last ≡ Some (Commit (Enrol a r)))) ⊎ ((w : Fault) × (n.last ≡ Some (Halt w)))))

-- it has surveyed: it began so
abbrev pub HasSurveyed : Machine → Type 0
HasSurveyed n = n.course.way ≡ Fresh → ⊥
