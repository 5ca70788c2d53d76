use Rattle.std.specs.Prelude.{ℕ}
use Rattle.dali_ring.specs.declared.error.NewError.{NewError}
use Rattle.dali_ring.specs.declared.error.NewError.TheVariants.{NoMemory, BadCapacity}

abbrev pub refusal_number : NewError → ℕ
refusal_number NoMemory = 1
refusal_number BadCapacity = 2
