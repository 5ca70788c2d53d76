use Rattle.std.specs.Prelude.{ℕ}
use Rattle.dali_capture.specs.declared.fault.CaptureFault.{CaptureFault}
use Rattle.dali_capture.specs.declared.fault.CaptureFault.TheVariants.{Bad, Memory, Read, TooLong}

-- the exit statuses of a program
abbrev pub status_of : CaptureFault → ℕ
status_of (Bad mistake) = 1
status_of Memory = 3
status_of Read = 3
status_of TooLong = 3
