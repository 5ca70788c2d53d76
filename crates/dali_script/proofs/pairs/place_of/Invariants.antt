use Rattle.std.proofs.Common.{drop}
use Rattle.dali_script.specs.Records.{Has}
use Rattle.dali_script.proofs.pairs.place_of.Given as goal

abbrev pub invariant-loop-place : goal.invariant-loop-place
invariant-loop-place l = Has l.pairs l.fn.wanted → Has (drop l.place l.pairs) l.fn.wanted
