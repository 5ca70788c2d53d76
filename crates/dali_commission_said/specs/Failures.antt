use Rattle.std.specs.Prelude.{ℕ, Bool, true, false, not, ◌||◌, if◌then◌else◌, List, Result, Ok, Err}
use Rattle.std.specs.Prelude.{codes, Option, None, option_map, slice_get, string_bytes}
use Rattle.std.specs.declared.alloc.Global.{Global}
use Rattle.std.specs.declared.string.String.{String}
use Rattle.dali_script.specs.declared.orders.End.TheVariants as ends
use Rattle.dali_script.specs.declared.orders.Fault.TheVariants as faults
use Rattle.dali_reserve.specs.declared.error.KeepError.{KeepError}
use Rattle.dali_reserve.specs.declared.error.KeepError.TheVariants.{StoreFailed}
use Rattle.dali_commissioning.specs.declared.census.Reply.{Reply}
use Rattle.dali_commissioning.specs.declared.census.Reply.TheVariants as heard
use Rattle.dali_commissioning.specs.declared.conducting.Ended.{Ended}
use Rattle.dali_commissioning.specs.declared.conducting.Ended.TheVariants.{Done, Halted}
use Rattle.dali_commissioning.specs.declared.driver.DriverFault.TheVariants.{Memory}
use Rattle.dali_commissioning.specs.declared.verdict.Place.{Place}
use Rattle.dali_commissioning.specs.Places.{are_as_recorded}
use Rattle.dali_commissioning.specs.declared.fault.CommissionFault.{CommissionFault}
use Rattle.dali_commissioning.specs.declared.fault.CommissionFault.TheVariants as commission
use Rattle.dali_replacement.specs.declared.refusal.ReplaceFault.{ReplaceFault}
use Rattle.dali_replacement.specs.declared.refusal.ReplaceRefusal.TheVariants as refusal
use Rattle.dali_replacement.specs.declared.refusal.ReplaceFault.TheVariants as replace
use Rattle.dali_console.specs.declared.fault.ConsoleFault.TheVariants.{BadCommandLine, NotText}
use Rattle.dali_console.specs.declared.fault.ConsoleFault.TheVariants.{Refused}
use Rattle.dali_console.specs.Status as console
use Rattle.dali_commission_said.specs.declared.failure.Failure.{Failure}
use Rattle.dali_commission_said.specs.declared.failure.Failure.TheVariants.{AddressedBefore}
use Rattle.dali_commission_said.specs.declared.failure.Failure.TheVariants.{NotAsRecorded, Console}
use Rattle.dali_commission_said.specs.declared.failure.Failure.TheVariants.{Driver, Store, Outside}
use Rattle.dali_commission_said.specs.declared.failure.Failure.TheVariants.{BlockFull, GaveUp}
use Rattle.dali_commission_said.specs.declared.failure.Failure.TheVariants.{Conflict, Spent}
use Rattle.dali_commission_said.specs.declared.failure.Failure.TheVariants.{NobodyAnswered}
use Rattle.dali_commission_said.specs.declared.failure.Failure.TheVariants.{NobodyThere}
use Rattle.dali_commission_said.specs.declared.failure.Failure.TheVariants.{NotReplaced}
use Rattle.dali_commission_said.specs.declared.failure.Failure.TheVariants.{NotConfirmed}
use Rattle.dali_commission_said.specs.declared.failure.Failure.TheVariants.{Unfinished, NotMended}
use Rattle.dali_commission_said.specs.declared.failure.Failure.TheVariants.{Shared, NotCleared}
use Rattle.dali_commission_said.specs.declared.failure.Failure.TheVariants.{NotClear}
use Rattle.dali_commission_said.specs.declared.failure.StoreFault.TheVariants as store
use Rattle.dali_commission_tasks.specs.declared.tasks.Task.{Task}
use Rattle.dali_commission_tasks.specs.declared.tasks.Task.TheVariants as task

-- THE EXIT STATUSES of the program
abbrev pub status_of : Failure → ℕ
status_of AddressedBefore = 1
status_of NotAsRecorded = 1
status_of (Console fault) = console.status_of fault
status_of (Driver line fault) = 4
status_of (Store fault) = 5
status_of (Outside a) = 5
status_of BlockFull = 6
status_of GaveUp = 7
status_of Conflict = 8
status_of Spent = 9
status_of NobodyAnswered = 10
status_of (NobodyThere a) = 10
status_of (NotReplaced a refusal) = 11
status_of (NotConfirmed a refusal) = 11
status_of Unfinished = 12
status_of (NotMended a refusal) = 11
status_of Shared = 13
status_of NotCleared = 14
status_of NotClear = 15

-- what the end of the program is called in an object of JSON
abbrev pub name_of : Failure → List ℕ
name_of AddressedBefore = codes "not-begun"
name_of NotAsRecorded = codes "not-as-recorded"
name_of (Console BadCommandLine) = codes "bad-command-line"
name_of (Console NotText) = codes "bad-command-line"
name_of (Console Refused) = codes "refused"
name_of (Driver line fault) = codes "driver"
name_of (Store fault) = codes "records"
name_of (Outside a) = codes "records"
name_of BlockFull = codes "block-full"
name_of GaveUp = codes "gave-up"
name_of Conflict = codes "conflict"
name_of Spent = codes "too-many-steps"
name_of NobodyAnswered = codes "nobody-answered"
name_of (NobodyThere a) = codes "nobody-answered"
name_of (NotReplaced a refusal) = codes "not-replaced"
name_of (NotConfirmed a refusal) = codes "not-confirmed"
name_of Unfinished = codes "unfinished"
name_of (NotMended a refusal) = codes "not-mended"
name_of Shared = codes "shared"
name_of NotCleared = codes "not-cleared"
name_of NotClear = codes "unclear"

abbrev pub end_name : Task → Result (Unit {0}) Failure → List ℕ
end_name (task.Run setup) (Ok done) = codes "all-found"
end_name task.Check (Ok done) = codes "as-recorded"
end_name (task.Identify a) (Ok done) = codes "shown"
end_name (task.Table form) (Ok done) = codes "written"
end_name (task.Replace wanted) (Ok done) = codes "replaced"
end_name (task.Accept wanted) (Ok done) = codes "accepted"
end_name (task.Mend wanted) (Ok done) = codes "mended"
end_name task.Clear (Ok done) = codes "cleared"
end_name asked (Err failure) = name_of failure

-- the records that a refusal is about; which of several files it is, was said before
abbrev pub refused_name : Task → List (String Global) → Option (List ℕ)
refused_name (task.Replace wanted) records = None
refused_name (task.Accept wanted) records = None
refused_name (task.Mend wanted) records = None
refused_name task.Clear records = None
refused_name _ records = option_map (λ name. string_bytes name) (slice_get records 0)

-- a result that cannot be written is a failure, if there was none before
abbrev pub or_refused : Result (Unit {0}) Failure → Result (Unit {0}) Failure
    → Result (Unit {0}) Failure
or_refused (Ok done) written = written
or_refused (Err failure) written = Err failure

-- an exchange of files that stopped is to be gone on with, whatever stopped it
abbrev pub or_unfinished : {T : Type 0} → Result T Failure → Result T Failure
or_unfinished (Ok it) = Ok it
or_unfinished (Err failure) = Err Unfinished

-- what the end of the last machine is to the program: if no gear was heard it is none
abbrev pub ended_as : Ended → Bool → Result (Unit {0}) Failure
ended_as (Done ends.AllFound) true = Ok tt
ended_as (Done ends.AllFound) false = Err NobodyAnswered
ended_as (Done ends.BlockFull) heard = Err BlockFull
ended_as (Done ends.GaveUp) heard = Err GaveUp
ended_as (Halted faults.Conflict) heard = Err Conflict
ended_as (Halted faults.Store) heard = Err (Store (store.Store StoreFailed))

-- WHAT A CHECK ENDS WITH: all is as recorded, and no gear is there that has no short address
abbrev pub checked : List Place → Bool → Bool → Result (Unit {0}) Failure
checked places unaddressed false = Err NobodyAnswered
checked places unaddressed true =
    if unaddressed || not (are_as_recorded places) then Err NotAsRecorded else Ok tt

-- what a fault is to the program, at a line of the driver
abbrev pub failure_of : CommissionFault → ℕ → Failure
failure_of (commission.Driver Memory) line = Console Refused
failure_of (commission.Driver fault) line = Driver line fault
failure_of (commission.Store error) line = Store (store.Store error)
failure_of commission.QuestionLost line = GaveUp
failure_of commission.StepsSpent line = Spent
failure_of commission.RunsSpent line = Spent

-- why a luminaire is not replaced, at a line of the driver; and once its files are exchanged
abbrev pub fault_of : ℕ → ReplaceFault → ℕ → Failure
fault_of a (replace.Refused refusal) line = NotReplaced a refusal
fault_of a (replace.Commission fault) line = failure_of fault line

abbrev pub although_exchanged : Failure → Failure
although_exchanged (NotReplaced a refusal) = NotConfirmed a refusal
although_exchanged other = other

-- what a store answers
abbrev pub answered : {T : Type 0} → Result T KeepError → Result T Failure
answered (Ok it) = Ok it
answered (Err error) = Err (Store (store.Store error))

-- why the new gear has not got the short address, by what was heard there
abbrev pub not_given : ℕ → Result Reply CommissionFault → ℕ → Failure
not_given a (Ok heard.Silence) line = NotReplaced a refusal.NotGiven
not_given a (Ok (heard.Random r)) line = NotReplaced a refusal.NotGiven
not_given a (Ok heard.Noise) line = NotReplaced a refusal.SeveralAnswer
not_given a (Ok heard.Unclear) line = NotReplaced a refusal.SeveralAnswer
not_given a (Ok heard.Several) line = NotReplaced a refusal.SeveralAnswer
not_given a (Err fault) line = failure_of fault line
