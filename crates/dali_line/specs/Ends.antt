use Rattle.std.specs.Prelude.{◌≡◌, ◌⊎◌, ℕ, ◌≤◌, Bool, true, false, List, [], ◌∷◌, ◌++◌, All}
use Rattle.std.specs.Prelude.{Option, None, Some, IsSomeAnd}
use Rattle.dali_script.specs.declared.records.Record.{Record}
use Rattle.dali_script.specs.declared.orders.Input.{Input}
use Rattle.dali_script.specs.declared.orders.Input.TheVariants as input
use Rattle.dali_script.specs.declared.orders.Order.{Order}
use Rattle.dali_script.specs.declared.orders.Order.TheVariants as order
use Rattle.dali_standing.specs.declared.refusal.Refusal.{Refusal}
use Rattle.dali_standing.specs.declared.refusal.Refusal.TheVariants as refusal
use Rattle.dali_line.specs.declared.outcome.Outcome.{Outcome}
use Rattle.dali_line.specs.declared.outcome.Outcome.TheVariants as outcome
use Rattle.dali_line.specs.Shares.{PortShare}
use Rattle.dali_line.specs.Steps.{Step, step_of}
use Rattle.dali_line.specs.Facts.{Facts}

-- after an order a run goes on, unless the controller ended or halted
abbrev pub GoesOn : Order → Type 0
GoesOn (order.Put p f) = Unit {0}
GoesOn (order.Commit r) = Unit {0}
GoesOn (order.Done e) = ⊥
GoesOn (order.Halt w) = ⊥

abbrev pub GoOn : List Step → Type 0
GoOn steps = All (λ s. GoesOn s.order) steps

-- the last of these steps ordered this, and each one before it something after which a run goes on
pub record EndsAt (o : Order) (steps : List Step) : Type 0 where
  pub before : List Step
  pub input : Input
  pub whole : steps ≡ before ++ step_of input o ∷ []
  pub on : GoOn before

-- a refusal to act on this ends the run: not if the bus lapsed before the controller acted, if the
-- controller is down, or if no request more may wait
abbrev pub IsFinal : Refusal → Input → Type 0
IsFinal refusal.NotDue input.Committed = Unit {0}
IsFinal refusal.NotDue input.CommitFailed = Unit {0}
IsFinal refusal.NotDue input.Start = ⊥
IsFinal refusal.NotDue input.Survey = ⊥
IsFinal refusal.NotDue (input.Heard h) = ⊥
IsFinal refusal.NotDue input.Destroyed = ⊥
IsFinal refusal.NotDue input.Lapsed = ⊥
IsFinal refusal.ControllerDown i = ⊥
IsFinal refusal.QueueFull i = ⊥
IsFinal refusal.UnknownController i = Unit {0}
IsFinal refusal.UnknownGear i = Unit {0}
IsFinal refusal.ControllerUp i = Unit {0}
IsFinal refusal.NotArc i = Unit {0}
IsFinal refusal.StoreDisagrees i = Unit {0}
IsFinal refusal.DrawsSpent i = Unit {0}
IsFinal refusal.LogFull i = Unit {0}
IsFinal refusal.NoMemory i = Unit {0}
IsFinal refusal.AddressInUse i = Unit {0}
IsFinal refusal.NotForeign i = Unit {0}

-- the end of a run at an order, and when its controller was refused to act on this, if it is one
abbrev pub end_of : Order → Option Outcome
end_of (order.Put p f) = None
end_of (order.Commit r) = None
end_of (order.Done e) = Some (outcome.Ended e)
end_of (order.Halt w) = Some (outcome.Halted w)

abbrev pub end_when_refused : Refusal → Input → Option Outcome
end_when_refused refusal.ControllerDown i = Some outcome.Down
end_when_refused refusal.QueueFull i = Some outcome.Stopped
end_when_refused refusal.NotDue input.Committed = Some (outcome.Refused refusal.NotDue)
end_when_refused refusal.NotDue input.CommitFailed = Some (outcome.Refused refusal.NotDue)
end_when_refused refusal.NotDue input.Start = None
end_when_refused refusal.NotDue input.Survey = None
end_when_refused refusal.NotDue (input.Heard h) = None
end_when_refused refusal.NotDue input.Destroyed = None
end_when_refused refusal.NotDue input.Lapsed = None
end_when_refused refusal.UnknownController i = Some (outcome.Refused refusal.UnknownController)
end_when_refused refusal.UnknownGear i = Some (outcome.Refused refusal.UnknownGear)
end_when_refused refusal.ControllerUp i = Some (outcome.Refused refusal.ControllerUp)
end_when_refused refusal.NotArc i = Some (outcome.Refused refusal.NotArc)
end_when_refused refusal.StoreDisagrees i = Some (outcome.Refused refusal.StoreDisagrees)
end_when_refused refusal.DrawsSpent i = Some (outcome.Refused refusal.DrawsSpent)
end_when_refused refusal.LogFull i = Some (outcome.Refused refusal.LogFull)
end_when_refused refusal.NoMemory i = Some (outcome.Refused refusal.NoMemory)
end_when_refused refusal.AddressInUse i = Some (outcome.Refused refusal.AddressInUse)
end_when_refused refusal.NotForeign i = Some (outcome.Refused refusal.NotForeign)

-- the ends of a run that stop its line
abbrev pub stops : Outcome → Bool
stops (outcome.Ended e) = false
stops (outcome.Halted w) = false
stops outcome.Down = false
stops (outcome.Refused e) = true
stops outcome.TurnsSpent = true
stops outcome.Stopped = true
stops outcome.NoMemory = true

-- HOW A RUN ENDS, by its steps and by what was found at a port that is so then; None if it goes on.
abbrev pub IsEnd : Facts → PortShare → Option Outcome → List Step → Type 0
IsEnd b to None steps = GoOn steps
IsEnd b to (Some (outcome.Ended e)) steps = EndsAt (order.Done e) steps
IsEnd b to (Some (outcome.Halted w)) steps = EndsAt (order.Halt w) steps
IsEnd b to (Some outcome.Down) steps =
    GoOn steps
    × (b.is_stopped ⊎ b.is_down to ⊎ ((i : Input) × b.refused to i refusal.ControllerDown))
IsEnd b to (Some (outcome.Refused e)) steps =
    GoOn steps × (i : Input) × b.refused to i e × IsFinal e i
IsEnd b to (Some outcome.TurnsSpent) steps = GoOn steps
IsEnd b to (Some outcome.Stopped) steps = GoOn steps × b.is_stopped
IsEnd b to (Some outcome.NoMemory) steps = GoOn steps ⊎ ((o : Order) × EndsAt o steps)

-- a run that goes on, or has had its turns, has taken so many; else it may have ended before
abbrev pub IsCount : Option Outcome → ℕ → ℕ → Type 0
IsCount None n most = n ≡ most
IsCount (Some outcome.TurnsSpent) n most = n ≡ most
IsCount (Some (outcome.Ended e)) n most = n ≤ most
IsCount (Some (outcome.Halted w)) n most = n ≤ most
IsCount (Some outcome.Down) n most = n ≤ most
IsCount (Some (outcome.Refused e)) n most = n ≤ most
IsCount (Some outcome.Stopped) n most = n ≤ most
IsCount (Some outcome.NoMemory) n most = n ≤ most

-- a record that was due may be in the store and not told, if the controller could not be told
abbrev pub IsLeft : Option Outcome → Option Record → List Record → Type 0
IsLeft None due left = left ≡ []
IsLeft (Some (outcome.Ended e)) due left = left ≡ []
IsLeft (Some (outcome.Halted w)) due left = left ≡ []
IsLeft (Some outcome.Down) due left = (left ≡ []) ⊎ IsSomeAnd due (λ r. left ≡ r ∷ [])
IsLeft (Some (outcome.Refused e)) due left = (left ≡ []) ⊎ IsSomeAnd due (λ r. left ≡ r ∷ [])
IsLeft (Some outcome.TurnsSpent) due left = left ≡ []
IsLeft (Some outcome.Stopped) due left = (left ≡ []) ⊎ IsSomeAnd due (λ r. left ≡ r ∷ [])
IsLeft (Some outcome.NoMemory) due left = left ≡ []
