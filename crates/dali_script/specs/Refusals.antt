use Rattle.std.specs.Prelude.{ℕ}
use Rattle.dali_script.specs.declared.records.AddError.{AddError}
use Rattle.dali_script.specs.declared.records.AddError.TheVariants.{AddressTaken, RandomTaken}
use Rattle.dali_script.specs.declared.records.AddError.TheVariants.{NotReserved}
use Rattle.dali_script.specs.declared.table.TableError.{TableError}
use Rattle.dali_script.specs.declared.table.TableError.TheVariants as table

abbrev pub number_of_add : AddError → ℕ
number_of_add AddressTaken = 3
number_of_add RandomTaken = 4
number_of_add NotReserved = 6

abbrev pub number_of_table : TableError → ℕ
number_of_table table.AddressTaken = 1
number_of_table table.RandomTaken = 2
number_of_table table.NoMemory = 3
