use Rattle.std.proofs.Common.{◌≡◌, take}
use Rattle.dali_script.specs.Pairs.{pairs_in}
use Rattle.dali_script.proofs.pairs.Pairs.of.Given as goal

-- those that were added
pub record Added (l : goal.Live-loop-pair) : Type 0 where
  pub pairs : pairs_in l.all ≡ take l.pair-index l.pairs
  pub count : l.all.count ≡ l.pair-index

abbrev pub invariant-loop-pair : goal.invariant-loop-pair
invariant-loop-pair l = Added l
