use Rattle.std.proofs.Common.{◌≡◌, drop, None}
use Rattle.dali_script.specs.Sending.{waiting_in}
use Rattle.dali_script.proofs.sending.half_in.Given as goal

abbrev pub invariant-loop-entry : goal.invariant-loop-entry
invariant-loop-entry l = waiting_in l.waiting (drop l.entry-index l.before) ≡ waiting_in None l.before
