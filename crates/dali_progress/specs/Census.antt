use Rattle.std.specs.Prelude.{◌≡◌, ◌⊎◌, ℕ, ◌+◌, List, [], ◌∷◌, Some, None}
use Rattle.dali_frame.specs.declared.frames.Answer.{Answer}
use Rattle.dali_frame.specs.declared.frames.Answer.TheVariants.{Silence, Byte}
use Rattle.dali_script.specs.declared.records.Record.TheVariants.{Enrol}
use Rattle.dali_script.specs.declared.orders.Fault.{Fault}
use Rattle.dali_script.specs.declared.orders.End.{End}
use Rattle.dali_script.specs.declared.orders.Order.TheVariants.{Commit, Done, Halt}
use Rattle.dali_script.specs.Records.{Kept, Has}
use Rattle.dali_script.specs.declared.orders.Input.{Input}
use Rattle.dali_script.specs.declared.orders.Input.TheVariants as input
use Rattle.dali_controller.specs.declared.purpose.Purpose.{Purpose}
use Rattle.dali_controller.specs.declared.purpose.Purpose.TheVariants.{Asking}
use Rattle.dali_controller.specs.Machine.{Machine, at_first}
use Rattle.dali_controller.specs.Whole.{IsWhole}
use Rattle.dali_script.specs.declared.stage.Stage.TheVariants as stage
use Rattle.dali_progress.specs.Surveyed.{Step, stage_told}

-- THE CENSUS of a survey: the frames that ask short addresses for their random addresses.

-- The course begins with a machine before its start, which is told to survey.
abbrev pub IsSurveyed : Step → Type 0
IsSurveyed s = (s.told ≡ input.Survey) × ((id : ℕ) × (k : Kept) × (s.before ≡ at_first id k))

abbrev pub BeginsBySurvey : List Step → Type 0
BeginsBySurvey [] = ⊥
BeginsBySurvey (s ∷ []) = IsSurveyed s
BeginsBySurvey (s ∷ (r ∷ earlier)) = BeginsBySurvey (r ∷ earlier)

-- each machine of it is whole, as the contract of a step says of the machine that it leaves
abbrev pub AreWhole : List Step → Type 0
AreWhole [] = Unit {0}
AreWhole (s ∷ earlier) = IsWhole s.before × AreWhole earlier

-- the frames of the census that were sent, and those that were destroyed or not sent
abbrev pub was_sent : Input → Purpose → ℕ
was_sent (input.Heard h) (Asking a) = 1
was_sent _ p = 0

abbrev pub was_lost : Input → Purpose → ℕ
was_lost input.Destroyed (Asking a) = 1
was_lost input.Lapsed (Asking a) = 1
was_lost _ p = 0

abbrev pub frames_asked : List Step → ℕ
frames_asked [] = 0
frames_asked (s ∷ earlier) =
    was_sent s.told s.before.course.purpose + frames_asked earlier

abbrev pub frames_lost : List Step → ℕ
frames_lost [] = 0
frames_lost (s ∷ earlier) = was_lost s.told s.before.course.purpose + frames_lost earlier

-- The gear that are there answer at once: if a short address was silent, it is silent again.
abbrev pub IsSteady : Step → Type 0
IsSteady s = (s.told ≡ input.Heard Silence) ⊎ (s.before.asked ≡ 0)

abbrev pub AreSteady : List Step → Type 0
AreSteady [] = Unit {0}
AreSteady (s ∷ earlier) = IsSteady s × AreSteady earlier

-- A SHORT ADDRESS WAS SILENT: its question was heard as silence, after it had been so twice in a
-- row.
pub record FallsSilent (s : Step) (a : ℕ) : Type 0 where
  pub told : s.told ≡ input.Heard Silence
  pub asking : s.before.course.purpose ≡ Asking a
  pub question : stage_told s ≡ stage.HighAsked a None
  pub twice : s.before.asked ≡ 2

abbrev pub WasSilent : List Step → ℕ → Type 0
WasSilent [] a = ⊥
WasSilent (s ∷ earlier) a = FallsSilent s a ⊎ WasSilent earlier a

-- A GEAR TOLD ITS RANDOM ADDRESS: three bytes were heard under its short address, and this is their
-- number.
pub record Spells (s : Step) (a r : ℕ) : Type 0 where
  pub heard : (h : Answer) × (s.told ≡ input.Heard h)
  pub asking : (b : ℕ) × (s.before.course.purpose ≡ Asking b)
  pub number : stage_told s ≡ stage.Spelled a (Some r)

abbrev pub WasSpelled : List Step → ℕ → ℕ → Type 0
WasSpelled [] a r = ⊥
WasSpelled (s ∷ earlier) a r = Spells s a r ⊎ WasSpelled earlier a r

-- whose number the table has, or is about to have; or the machine has halted
abbrev pub IsNamed : Machine → ℕ → ℕ → Type 0
IsNamed n a r =
    Has n.kept.enrolled (a, r)
    ⊎ ((n.last ≡ Some (Commit (Enrol a r))) ⊎ ((w : Fault) × (n.last ≡ Some (Halt w))))

-- What is heard of a short address is a byte each time.
abbrev pub IsClean : ℕ → Step → Type 0
IsClean a s =
    (h : Answer) → s.told ≡ input.Heard h → s.before.course.purpose ≡ Asking a
    → (v : ℕ) × (h ≡ Byte v)

-- The census is over: no short address is asked any more, and the machine has not ended.
pub record HasTakenCensus (n : Machine) : Type 0 where
  pub quiet : (b : ℕ) → n.course.purpose ≡ Asking b → ⊥
  pub runs : (e : End) → n.last ≡ Some (Done e) → ⊥
  pub whole : (w : Fault) → n.last ≡ Some (Halt w) → ⊥
