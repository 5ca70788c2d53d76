use Rattle.std.specs.Prelude.{◌≡◌, ◌⊎◌, ℕ, ◌+◌, ◌^◌, ◌-◌, min, List, Option, Some}
use Rattle.std.specs.Prelude.{Bool, true, false}
use Rattle.std.specs.Io.KnownBytes.{Appends}
use Rattle.dali_frame.specs.declared.frames.Answer.TheVariants.{Silence, Byte, Damaged}
use Rattle.dali_script.specs.declared.orders.Input.{Input}
use Rattle.dali_script.specs.declared.orders.Input.TheVariants.{Start, Survey, Heard}
use Rattle.dali_script.specs.declared.orders.Input.TheVariants.{Destroyed, Lapsed, Committed}
use Rattle.dali_script.specs.declared.orders.Input.TheVariants.{CommitFailed}
use Rattle.dali_commissioning.specs.declared.driver.DriverLink.{DriverLink}
use Rattle.dali_commissioning.specs.declared.driver.DriverFault.{DriverFault}
use Rattle.dali_commissioning.specs.declared.driver.DriverFault.TheVariants as fault
use Rattle.dali_commissioning.specs.declared.fault.CommissionFault.{CommissionFault}
use Rattle.dali_commissioning.specs.declared.fault.CommissionFault.TheVariants as commission

-- what is read from a driver, what is written to it, the number of the line that was read last,
-- that line, and whether any gear was heard
abbrev pub reader_of : {R W : Type 0} → DriverLink R W → R
reader_of d = d.reader

abbrev pub writer_of : {R W : Type 0} → DriverLink R W → W
writer_of d = d.writer

abbrev pub lines_of : {R W : Type 0} → DriverLink R W → ℕ
lines_of d = d.lines

abbrev pub line_of : {R W : Type 0} → DriverLink R W → List ℕ
line_of d = d.line.items

abbrev pub has_heard : {R W : Type 0} → DriverLink R W → Bool
has_heard d = d.has_heard

-- whether the last frame was lost, and why a line could not be written or read: then no frame is
-- put any more
abbrev pub is_lost : {R W : Type 0} → DriverLink R W → Bool
is_lost d = d.is_lost

abbrev pub fault_of : {R W : Type 0} → DriverLink R W → Option DriverFault
fault_of d = d.fault

-- a gear was heard, clean or damaged
abbrev pub is_answer : Input → Bool
is_answer (Heard Silence) = false
is_answer (Heard (Byte byte)) = true
is_answer (Heard Damaged) = true
is_answer Start = false
is_answer Survey = false
is_answer Destroyed = false
is_answer Lapsed = false
is_answer Committed = false
is_answer CommitFailed = false

-- the number of the next line, as far as 64 bits can say
abbrev pub next_line : ℕ → ℕ
next_line n = min (n + 1) (2 ^ 64 - 1)

-- THE TALK with a driver at a moment: all that was written to it, all that is left to be read,
-- whether the last frame was lost, and the fault at which it ended, if it did.
pub record Talk : Type 0 where
  pub written : Option (List ℕ)
  pub left : Option (List ℕ)
  pub lost : Bool
  pub fault : Option DriverFault

abbrev pub talk_of : {R W : Type 0} → (R → Option (List ℕ)) → (W → Option (List ℕ))
    → DriverLink R W → Talk
talk_of remaining contents d = record {
  written = contents d.writer;
  left = remaining d.reader;
  lost = d.is_lost;
  fault = d.fault;
}

-- after this fault a line may have been written in part
abbrev pub IsPart : DriverFault → Type 0
IsPart fault.Write = Unit {0}
IsPart fault.Memory = Unit {0}
IsPart fault.BadLine = ⊥
IsPart fault.LongLine = ⊥
IsPart fault.TornLine = ⊥
IsPart fault.Ended = ⊥
IsPart fault.Read = ⊥

-- A FRAME IS PUT IN PART at a fault: its line, or a part of it; or nothing, if the talk had ended
-- before
abbrev pub IsPutInPart : DriverFault → Talk → Talk → List ℕ → Type 0
IsPutInPart f x y text =
    ((x.fault ≡ Some f) × (y ≡ x)) ⊎ (IsPart f ⊎ Appends x.written y.written text)

-- A CALL FAILS ONLY FOR A CAUSE. A fault of the driver is answered only if the talk ended by it,
-- and that a question was lost only if the last frame was. So a body that puts another frame, which
-- is heard, has to end well. When the others are answered other clauses say.
abbrev pub IsFailed : CommissionFault → Talk → Type 0
IsFailed (commission.Driver f) y = y.fault ≡ Some f
IsFailed (commission.Store e) y = Unit {0}
IsFailed commission.QuestionLost y = y.lost ≡ true
IsFailed commission.StepsSpent y = Unit {0}
IsFailed commission.RunsSpent y = Unit {0}

-- and a question fails only so, or if it was lost
abbrev pub IsCut : CommissionFault → Talk → Type 0
IsCut (commission.Driver f) y = y.fault ≡ Some f
IsCut commission.QuestionLost y = y.lost ≡ true
IsCut (commission.Store e) y = ⊥
IsCut commission.StepsSpent y = ⊥
IsCut commission.RunsSpent y = ⊥

-- and a question beside a store, that is read first
abbrev pub IsCutBeside : CommissionFault → Talk → Talk → Type 0
IsCutBeside (commission.Driver f) x y = y.fault ≡ Some f
IsCutBeside commission.QuestionLost x y = y.lost ≡ true
IsCutBeside (commission.Store e) x y = y ≡ x
IsCutBeside commission.StepsSpent x y = ⊥
IsCutBeside commission.RunsSpent x y = ⊥
