use Rattle.std.specs.Prelude.{◌≡◌, ℕ, List, [], ◌∷◌, Option, None, Some}
use Rattle.std.specs.Prelude.{IfSome, IsSome}
use Rattle.dali_script.specs.declared.records.Record.{Record}
use Rattle.dali_script.specs.declared.records.Record.TheVariants.{Reserve, Enrol, Release}
use Rattle.dali_script.specs.Records.{Has}
use Rattle.dali_enrol.specs.Directory.{Pass, known_at, stands_at}
use Rattle.dali_line.specs.declared.outcome.Outcome.{Outcome}
use Rattle.dali_line.specs.declared.outcome.Outcome.TheVariants as outcome
use Rattle.dali_line.specs.Leaves.{Learns}

-- what a pass knew to stand in a place it still knows, and of that address it learns nothing more
pub record StillStands (old new : Pass) : Type 0 where
  pub stands : (a : ℕ) → IfSome (stands_at old a) (λ e. stands_at new a ≡ Some e)
  pub settled : (a : ℕ) → IsSome (stands_at old a) → known_at new a ≡ known_at old a

-- AN ENROLMENT IS POSTED: an entry stands in the place of its short address. It is the one that the
-- pass knows there; only if the pass knows none, it is one that another pass posted before.
abbrev pub IsPosted : Pass → Record → Type 0
IsPosted p (Enrol a r) =
    IsSome (stands_at p a) × IfSome (known_at p a) (λ e. stands_at p a ≡ Some e)
IsPosted p (Reserve a r) = Unit {0}
IsPosted p (Release a r) = Unit {0}

abbrev pub HasPosted : Pass → Option Record → Type 0
HasPosted p None = Unit {0}
HasPosted p (Some r) = IsPosted p r

-- each of these, unless memory was short for one
abbrev pub ArePosted : Option Outcome → Pass → List Record → Type 0
ArePosted end p rs =
    (end ≡ Some outcome.NoMemory → ⊥) → (r : Record) → Has rs r → IsPosted p r

-- what a pass learned by posting this record, if there is one
abbrev pub LearnsOf : Pass → Pass → Option Record → Type 0
LearnsOf was is None = is ≡ was
LearnsOf was is (Some r) = Learns was is (r ∷ [])
