use Rattle.std.specs.Prelude.{ℕ, Bool, true, false, Result, Ok, Err}
use Rattle.dali_audit.specs.declared.places.BenchError.{BenchError}
use Rattle.dali_audit.specs.declared.places.BenchError.TheVariants as bench
use Rattle.dali_capture.specs.Faults.{status_of as unread_status}
use Rattle.dali_audit_program.specs.declared.ended.Ended.{Ended}
use Rattle.dali_audit_program.specs.declared.ended.Ended.TheVariants.{Unread, Refused, Broken}
use Rattle.dali_audit_program.specs.declared.ended.Ended.TheVariants.{TooManyGear, TooLong}

-- THE EXIT STATUSES
abbrev pub status_of : Ended → ℕ
status_of (Unread fault) = unread_status fault
status_of Refused = 3
status_of Broken = 4
status_of TooManyGear = 5
status_of TooLong = 5

-- WHY A SCRIPT of the bench cannot be had
abbrev pub ended_by : BenchError → Ended
ended_by bench.NoMemory = Refused
ended_by bench.TooManyGear = TooManyGear
ended_by bench.TooLong = TooLong

-- how a capture ends that was judged
abbrev pub judged : Bool → Result (Unit {0}) Ended
judged true = Ok tt
judged false = Err Broken
