use Rattle.std.proofs.Common.{◌≡◌, drop}
use Rattle.dali_commissioning.specs.Places.{random_at}
use Rattle.dali_commissioning.proofs.verdict.random_at.Given as goal

abbrev pub invariant-loop-pair : goal.invariant-loop-pair
invariant-loop-pair l = random_at l.pairs l.short ≡ random_at (drop l.pair-index l.pairs) l.short
