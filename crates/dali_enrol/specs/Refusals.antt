use Rattle.std.specs.Prelude.{ℕ}
use Rattle.dali_enrol.specs.declared.error.DirectoryError.{DirectoryError}
use Rattle.dali_enrol.specs.declared.error.DirectoryError.TheVariants.{NoMemory}

abbrev pub directory_number_of : DirectoryError → ℕ
directory_number_of NoMemory = 1
