use Rattle.std.proofs.Common.{drop}
use Rattle.dali_script.specs.Records.{HasAddress}
use Rattle.dali_script.proofs.pairs.at_address.Given as goal

abbrev pub invariant-loop-place : goal.invariant-loop-place
invariant-loop-place l = HasAddress l.pairs l.fn.address → HasAddress (drop l.place l.pairs) l.fn.address
