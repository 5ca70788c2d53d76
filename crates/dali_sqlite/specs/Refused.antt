use Rattle.std.specs.Prelude.{◌≡◌, ◌⊎◌}
use Rattle.sqlite.specs.declared.error.Error.{Error}
use Rattle.sqlite.specs.declared.error.Error.TheVariants.{SqliteFailure}
use Rattle.sqlite.specs.declared.error.ErrorCode.TheVariants.{OutOfMemory}
use Rattle.dali_reserve.specs.declared.error.KeepError.{KeepError}
use Rattle.dali_reserve.specs.declared.error.KeepError.TheVariants.{NoMemory, StoreFailed}

-- what a refusal of SQLite is to a store
abbrev pub refusal_of : Error → KeepError
refusal_of (SqliteFailure OutOfMemory) = NoMemory
refusal_of _ = StoreFailed

-- the statement was not carried out
abbrev pub HasFailed : KeepError → Type 0
HasFailed e = (e ≡ StoreFailed) ⊎ (e ≡ NoMemory)
