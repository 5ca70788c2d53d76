use Rattle.std.specs.Prelude.{ℕ}
use Rattle.dali_controller.specs.declared.error.StepError.{StepError}
use Rattle.dali_controller.specs.declared.error.StepError.TheVariants.{NotDue}

abbrev pub refusal_number : StepError → ℕ
refusal_number NotDue = 1
