use Rattle.std.specs.Prelude.{◌≡◌, ◌≢◌, ◌⊎◌, ℤ, List, ℕ, Option, Some, None}
use Rattle.std.specs.declared.io.Error.{Error}
use Rattle.std.specs.declared.io.ErrorKind.{ErrorKind}
use Rattle.std.specs.declared.io.ErrorKind.TheVariants as kind
use Rattle.std.specs.IoError.{error_kind, raw_os_error}
use Rattle.sqlite.specs.declared.error.Error as sqlite
use Rattle.sqlite.specs.declared.error.Error.TheVariants.{SqliteFailure}
use Rattle.sqlite.specs.declared.error.ErrorCode.TheVariants as code
use Rattle.dali_reserve.specs.declared.error.KeepError.{KeepError}
use Rattle.dali_reserve.specs.declared.error.KeepError.TheVariants.{NoMemory, StoreFailed}
use Rattle.dali_reserve.specs.Refusals.{RefusesRead}
use Rattle.dali_sqlite.specs.declared.copy.CopyError.{CopyError}
use Rattle.dali_sqlite.specs.declared.copy.CopyError.TheVariants as copy
use Rattle.dali_commission_said.specs.declared.failure.StoreFault.{StoreFault}
use Rattle.dali_commission_said.specs.declared.failure.StoreFault.TheVariants as fault
use Rattle.dali_commission_files.specs.Logs.{IsDamaged}

-- WHAT A REFUSAL of the system is to a file of records; and with the system's own error, if it is
-- none of these
abbrev pub system_fault : ErrorKind → StoreFault
system_fault kind.NotFound = fault.Missing
system_fault kind.PermissionDenied = fault.Forbidden
system_fault kind.ReadOnlyFilesystem = fault.ReadOnly
system_fault kind.StorageFull = fault.Full
system_fault kind.QuotaExceeded = fault.Full
system_fault kind.NotADirectory = fault.NoFolder
system_fault kind.IsADirectory = fault.Foreign
system_fault kind.OutOfMemory = fault.Store NoMemory
system_fault _ = fault.CannotOpen

abbrev pub or_number : StoreFault → Option ℤ → StoreFault
or_number fault.CannotOpen (Some number) = fault.System number
or_number it number = it

abbrev pub refusal_of : Error → StoreFault
refusal_of error = or_number (system_fault (error_kind error)) (raw_os_error error)

-- what the refusal of a copy is
abbrev pub copy_fault : CopyError → StoreFault
copy_fault copy.Foreign = fault.Foreign
copy_fault copy.Newer = fault.Newer
copy_fault copy.Damaged = fault.Damaged
copy_fault copy.NoMemory = fault.Store NoMemory
copy_fault copy.CannotOpen = fault.CannotOpen
copy_fault (copy.Store error) = fault.Store error

-- what SQLite's own refusal to open a file is; the other ones do not tell why
abbrev pub closed_fault : sqlite.Error → Option StoreFault
closed_fault (SqliteFailure code.DatabaseBusy) = Some fault.Locked
closed_fault (SqliteFailure code.OutOfMemory) = Some (fault.Store NoMemory)
closed_fault (SqliteFailure code.DiskFull) = Some fault.Full
closed_fault (SqliteFailure code.DatabaseCorrupt) = Some fault.Damaged
closed_fault (SqliteFailure code.NotADatabase) = Some fault.Foreign
closed_fault _ = None

-- WHY A FILE IS NOT READ: it is none or too long, memory is lacking, or the system refuses it
abbrev pub IsUnread : StoreFault → Type 0
IsUnread it =
    (it ≡ fault.Foreign)
    ⊎ ((it ≡ fault.Store NoMemory) ⊎ ((error : Error) × (it ≡ refusal_of error)))

-- why it is not written: it is made if it is missing, so what is missing is its folder; or nothing
-- can be made there
abbrev pub IsUnwritten : StoreFault → Type 0
IsUnwritten it =
    ((it ≡ fault.CannotOpen) ⊎ (it ≡ fault.ClosedFolder))
    ⊎ ((it ≡ fault.NoFolder)
    ⊎ ((error : Error) × (error_kind error ≢ kind.NotFound) × (it ≡ refusal_of error)))

-- why a database is not opened: another program has it, it is no file with one name, memory is
-- lacking, SQLite says why, or it is not written
abbrev pub IsUnopened : StoreFault → Type 0
IsUnopened it =
    ((it ≡ fault.Locked) ⊎ (it ≡ fault.Linked))
    ⊎ ((it ≡ fault.Store NoMemory)
    ⊎ (((error : sqlite.Error) × (closed_fault error ≡ Some it)) ⊎ IsUnwritten it))

-- why it is not copied: it is not read, no two readings agree, its log is damaged, or the copy is
-- refused
abbrev pub IsUncopied : StoreFault → Type 0
IsUncopied it =
    IsUnread it
    ⊎ ((it ≡ fault.Locked)
    ⊎ (((it ≡ fault.DamagedLog) × ((log : List ℕ) × IsDamaged log))
    ⊎ ((error : CopyError) × (it ≡ copy_fault error))))

-- why its records are not read, once it is open
abbrev pub IsUnnoted : StoreFault → Type 0
IsUnnoted it = (error : KeepError) × RefusesRead error × (it ≡ fault.Store error)

-- why it is not held open
abbrev pub IsUnheld : StoreFault → Type 0
IsUnheld it = IsUnread it ⊎ (IsUnopened it ⊎ IsUnnoted it)

-- why it is not closed: not all that is in the log was copied, or memory is lacking
abbrev pub IsUnclosed : StoreFault → Type 0
IsUnclosed it = (it ≡ fault.Store StoreFailed) ⊎ (it ≡ fault.Store NoMemory)
