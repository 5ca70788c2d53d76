use Rattle.std.specs.Prelude.{ℕ, Result}
use Rattle.std.specs.Result.{result_map_both}
use Rattle.dali_grammar.specs.declared.fault.ReplayFault.{ReplayFault}
use Rattle.dali_grammar.specs.declared.fault.ReplayFault.TheVariants.{BadLine, BadPlan, Memory}
use Rattle.dali_grammar.specs.declared.fault.ReplayFault.TheVariants.{Read, Write}
use Rattle.dali_grammar.specs.declared.fault.Stop.{Stop}
use Rattle.dali_grammar.specs.declared.fault.Stop.TheVariants as stop

-- the exit statuses of the program
abbrev pub status_of : ReplayFault → ℕ
status_of (BadLine n) = 1
status_of (BadPlan e) = 1
status_of Memory = 3
status_of Read = 3
status_of Write = 3

-- what stopped a run, without what is wrong in the script
abbrev pub fault_of : Stop → ReplayFault
fault_of (stop.Line n place wrong) = BadLine n
fault_of (stop.Plan e clue) = BadPlan e
fault_of stop.Memory = Memory
fault_of stop.Read = Read
fault_of stop.Write = Write

abbrev pub with_fault : {A : Type 0} → Result A Stop → Result A ReplayFault
with_fault result = result_map_both (λ a. a) fault_of result
