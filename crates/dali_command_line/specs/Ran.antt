use Rattle.std.specs.Prelude.{◌≡◌, ℕ, Result}
use Rattle.dali_console.specs.Status.{status_after}
use Rattle.dali_threads.specs.Ran.{IsRunOf}
use Rattle.dali_threads.specs.Setup.{status_of}
use Rattle.dali_threads.specs.declared.setup.Setup.{Setup}
use Rattle.dali_threads.specs.declared.setup.ThreadsFault.{ThreadsFault}

-- THE EXIT STATUS of a run: that of what came of a run of this setup
abbrev pub EndsRun : Setup → ℕ → Type 0
EndsRun setup status =
    (ended : Result (Unit {0}) ThreadsFault)
    × IsRunOf setup ended
    × (status ≡ status_after status_of ended)
