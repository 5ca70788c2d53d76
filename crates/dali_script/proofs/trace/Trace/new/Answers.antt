use Rattle.dali_script.proofs.Found.{trace_none}
use Rattle.dali_script.proofs.trace.Trace.new.Goals as goal

pub invariant_of-result : goal.invariant_of-result
invariant_of-result c = rw c.new.ensures trace_none
