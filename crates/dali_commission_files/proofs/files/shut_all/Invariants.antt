use Rattle.std.proofs.Common.{◌≡◌, IfErr}
use Rattle.dali_commission_said.specs.declared.failure.StoreFault.{StoreFault}
use Rattle.dali_commission_said.specs.declared.failure.Failure.TheVariants.{Store}
use Rattle.dali_commission_files.specs.Faults.{IsUnclosed}
use Rattle.dali_commission_files.proofs.files.shut_all.Given as goal

abbrev pub invariant-loop-name : goal.invariant-loop-name
invariant-loop-name g l = IfErr l.done (λ failure. (it : StoreFault) × IsUnclosed it × (failure ≡ Store it))
