use Rattle.std.specs.Prelude.{◌≡◌, ◌⊎◌, Bool, true, false, List, [], ◌∷◌, ◌++◌, Option, None, Some}
use Rattle.std.specs.Prelude.{IsSome, IsSomeAnd}
use Rattle.dali_script.specs.declared.block.Block.{Block}
use Rattle.dali_script.specs.declared.records.Record.{Record}
use Rattle.dali_script.specs.declared.orders.Input.{Input}
use Rattle.dali_script.specs.declared.orders.Input.TheVariants as input
use Rattle.dali_script.specs.declared.orders.Order.{Order}
use Rattle.dali_script.specs.Due.{record_ordered}
use Rattle.dali_line.specs.Leaves.{IsStored}

-- A STEP of a controller: what it was told, and what it ordered then.
pub record Step : Type 0 where
  pub input : Input
  pub order : Order

abbrev pub step_of : Input → Order → Step
step_of i o = record { input = i; order = o }

-- the order of the last of these steps; if there is none, of the one before them
abbrev pub last_order : Option Order → List Step → Option Order
last_order before [] = before
last_order before (s ∷ ss) = last_order (Some s.order) ss

-- the record whose commit is due after these steps, if this one's was due before them
abbrev pub due_then : Option Record → List Step → Option Record
due_then due [] = due
due_then due (s ∷ ss) = due_then (record_ordered (Some s.order)) ss

-- what became of a commit is told only if one was due
abbrev pub IsDueFor : Option Record → Input → Type 0
IsDueFor due input.Committed = IsSome due
IsDueFor due input.CommitFailed = IsSome due
IsDueFor due input.Start = Unit {0}
IsDueFor due input.Survey = Unit {0}
IsDueFor due (input.Heard h) = Unit {0}
IsDueFor due input.Destroyed = Unit {0}
IsDueFor due input.Lapsed = Unit {0}

abbrev pub AreDue : Option Record → List Step → Type 0
AreDue due [] = Unit {0}
AreDue due (s ∷ ss) = IsDueFor due s.input × AreDue (record_ordered (Some s.order)) ss

-- WHAT A STORE TAKES IN until its controller is told this: if that is what became of a commit, the
-- record that was due, or nothing; of all else nothing. Committed is told of a record that is
-- stored then.
abbrev pub TakesIn : Block → List Record → Option Record → Input → List Record → Type 0
TakesIn b xs due input.Committed more =
    IsSomeAnd due (λ r. ((more ≡ []) ⊎ (more ≡ r ∷ [])) × IsStored b (xs ++ more) r)
TakesIn b xs due input.CommitFailed more = IsSomeAnd due (λ r. (more ≡ []) ⊎ (more ≡ r ∷ []))
TakesIn b xs due input.Start more = more ≡ []
TakesIn b xs due input.Survey more = more ≡ []
TakesIn b xs due (input.Heard h) more = more ≡ []
TakesIn b xs due input.Destroyed more = more ≡ []
TakesIn b xs due input.Lapsed more = more ≡ []

-- and until the last of these steps, each record after the one before
abbrev pub TakeIn : Block → List Record → Option Record → List Step → List Record → Type 0
TakeIn b xs due [] more = more ≡ []
TakeIn b xs due (s ∷ ss) more =
    (first rest : List Record) × TakesIn b xs due s.input first
    × TakeIn b (xs ++ first) (record_ordered (Some s.order)) ss rest × (more ≡ first ++ rest)

-- the records that a controller was told to be committed, by these steps
abbrev pub told_at : Option Record → Input → List Record
told_at (Some r) input.Committed = r ∷ []
told_at None input.Committed = []
told_at due input.CommitFailed = []
told_at due input.Start = []
told_at due input.Survey = []
told_at due (input.Heard h) = []
told_at due input.Destroyed = []
told_at due input.Lapsed = []

abbrev pub first_of : List Record → Option Record
first_of [] = None
first_of (r ∷ rs) = Some r

abbrev pub told_of : Option Record → List Step → List Record
told_of due [] = []
told_of due (s ∷ ss) = told_at due s.input ++ told_of (record_ordered (Some s.order)) ss

-- what a bus tells: never what became of a commit
abbrev pub IsOfBus : Input → Type 0
IsOfBus input.Start = Unit {0}
IsOfBus input.Survey = Unit {0}
IsOfBus (input.Heard h) = Unit {0}
IsOfBus input.Destroyed = Unit {0}
IsOfBus input.Lapsed = Unit {0}
IsOfBus input.Committed = ⊥
IsOfBus input.CommitFailed = ⊥

-- what a worker gives its controller that was told this: Survey for Start, if it surveys
abbrev pub given_of : Bool → Input → Input
given_of true input.Start = input.Survey
given_of false input.Start = input.Start
given_of surveys input.Survey = input.Survey
given_of surveys (input.Heard h) = input.Heard h
given_of surveys input.Destroyed = input.Destroyed
given_of surveys input.Lapsed = input.Lapsed
given_of surveys input.Committed = input.Committed
given_of surveys input.CommitFailed = input.CommitFailed
