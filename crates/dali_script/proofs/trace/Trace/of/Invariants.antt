use Rattle.std.proofs.Common.{◌≡◌, take}
use Rattle.dali_script.proofs.trace.Trace.of.Given as goal

abbrev pub invariant-loop-entry : goal.invariant-loop-entry
invariant-loop-entry l = l.trace ≡ take l.entry-index l.entries
