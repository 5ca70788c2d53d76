use Rattle.std.specs.Prelude.{ℕ}
use Rattle.dali_threads.specs.declared.setup.ThreadsFault.{ThreadsFault}
use Rattle.dali_threads.specs.declared.setup.ThreadsFault.TheVariants.{BadPlan, Memory, Write}

-- THE EXIT STATUSES of the program if a run did not come to its report
abbrev pub status_of : ThreadsFault → ℕ
status_of (BadPlan e) = 2
status_of Memory = 3
status_of Write = 3
