use Rattle.std.proofs.Common.{drop}
use Rattle.dali_script.proofs.Lists.{Marking}
use Rattle.dali_script.proofs.pairs.marks.Given as goal

abbrev pub invariant-loop-place : goal.invariant-loop-place
invariant-loop-place l = Marking l.pairs (drop l.place l.pairs) l.marks
