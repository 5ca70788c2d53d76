use Rattle.std.specs.Prelude.{ℕ, Result, Ok, Err}
use Rattle.dali_console.specs.declared.fault.ConsoleFault.{ConsoleFault}
use Rattle.dali_console.specs.declared.fault.ConsoleFault.TheVariants.{BadCommandLine, NotText}
use Rattle.dali_console.specs.declared.fault.ConsoleFault.TheVariants.{Refused}

-- THE EXIT STATUS of a program: 0, or that of its failure
abbrev pub status_after : {E : Type 0} → (E → ℕ) → {A : Type 0} → Result A E → ℕ
status_after status_of (Ok done) = 0
status_after status_of (Err failure) = status_of failure

-- that of what goes wrong with the command line or the output of any program
abbrev pub status_of : ConsoleFault → ℕ
status_of BadCommandLine = 2
status_of NotText = 2
status_of Refused = 3
