use Rattle.std.proofs.Common.{drop}
use Rattle.dali_script.proofs.Matching.{Matching}
use Rattle.dali_script.proofs.pairs.maybe_unmatched.Given as goal

abbrev pub invariant-loop-place : goal.invariant-loop-place
invariant-loop-place l = Matching l.pairs (drop l.place l.pairs) l.fn.others l.marks
