use Rattle.std.specs.Prelude.{Option, Some, None}
use Rattle.clap.specs.declared.error.kind.ErrorKind.{ErrorKind}
use Rattle.clap.specs.declared.error.kind.ErrorKind.TheVariants.{DisplayHelp, DisplayVersion}
use Rattle.clap.specs.declared.error.kind.ErrorKind.TheVariants.{OutOfMemory}
use Rattle.clap.specs.declared.error.kind.ErrorKind.TheVariants.{ValueValidation, TooManyValues}
use Rattle.clap.specs.declared.error.kind.ErrorKind.TheVariants.{ArgumentConflict}
use Rattle.dali_console.specs.declared.fault.ConsoleFault.{ConsoleFault}
use Rattle.dali_console.specs.declared.fault.ConsoleFault.TheVariants.{BadCommandLine, Refused}
use Rattle.dali_words.specs.declared.line.LineFault.{LineFault}
use Rattle.dali_words.specs.declared.line.LineFault.TheVariants as fault

-- what help was shown on: no contract sees what a system shows, so only who shows it may say so
unfoldable pub IsShown : {S : Type 0} → S → Type 0
IsShown on = Unit {0}

-- what is wrong with a command line that `clap` answers: help or the version cannot be shown,
-- memory is wanted, or the line is bad
abbrev pub fault_by : ErrorKind → ConsoleFault
fault_by DisplayHelp = Refused
fault_by DisplayVersion = Refused
fault_by OutOfMemory = Refused
fault_by _ = BadCommandLine

-- how `clap` tells what is wrong with a line that it took
abbrev pub kind_of_fault : LineFault → Option ErrorKind
kind_of_fault (fault.Value message) = Some ValueValidation
kind_of_fault (fault.TooMany message) = Some TooManyValues
kind_of_fault (fault.Conflict message) = Some ArgumentConflict
kind_of_fault fault.Memory = None
