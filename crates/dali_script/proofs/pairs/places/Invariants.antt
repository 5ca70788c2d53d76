use Rattle.std.proofs.Common.{◌≡◌, length}
use Rattle.dali_script.proofs.pairs.places.Given as goal

abbrev pub invariant-loop-place : goal.invariant-loop-place
invariant-loop-place l = length l.places ≡ 64
