use Rattle.std.proofs.Common.{drop}
use Rattle.dali_script.specs.Records.{HasRandom}
use Rattle.dali_script.proofs.pairs.at_random.Given as goal

abbrev pub invariant-loop-place : goal.invariant-loop-place
invariant-loop-place l = HasRandom l.pairs l.wanted.1 → HasRandom (drop l.place l.pairs) l.wanted.1
