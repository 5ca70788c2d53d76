use Rattle.std.specs.Prelude.{◌≡◌, ℕ, ◌⊎◌, Result, Err}
use Rattle.dali_reserve.specs.declared.error.KeepError.{KeepError}
use Rattle.dali_reserve.specs.declared.error.KeepError.TheVariants.{NoMemory, StoreFailed}
use Rattle.dali_reserve.specs.declared.error.KeepError.TheVariants.{AddressTaken, RandomTaken}
use Rattle.dali_reserve.specs.declared.error.KeepError.TheVariants.{BadStore, NotReserved}

abbrev pub refusal_number : KeepError → ℕ
refusal_number NoMemory = 1
refusal_number StoreFailed = 2
refusal_number AddressTaken = 3
refusal_number RandomTaken = 4
refusal_number BadStore = 5
refusal_number NotReserved = 6

-- why a read may be refused
abbrev pub RefusesRead : KeepError → Type 0
RefusesRead e = (e ≡ BadStore) ⊎ (e ≡ StoreFailed) ⊎ (e ≡ NoMemory)

-- the record is judged, and may not be added
abbrev pub RefusesRecord : KeepError → Type 0
RefusesRecord e = (e ≡ AddressTaken) ⊎ (e ≡ RandomTaken) ⊎ (e ≡ NotReserved)

-- why a commit may be refused
abbrev pub RefusesCommit : KeepError → Type 0
RefusesCommit e = RefusesRecord e ⊎ (e ≡ StoreFailed) ⊎ (e ≡ NoMemory)

-- the record was judged, and refused
abbrev pub IsRefused : {A : Type 0} → Result A KeepError → Type 0
IsRefused r = (r ≡ Err AddressTaken) ⊎ (r ≡ Err RandomTaken) ⊎ (r ≡ Err NotReserved)

-- the commit failed: it isn't known whether its record is stored
abbrev pub HasFailed : {A : Type 0} → Result A KeepError → Type 0
HasFailed r = (r ≡ Err StoreFailed) ⊎ (r ≡ Err NoMemory)
