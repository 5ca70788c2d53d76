use Rattle.std.proofs.Common.{◌≡◌, drop}
use Rattle.dali_commissioning.specs.Runs.{outside}
use Rattle.dali_commissioning.proofs.beginning.outside.Given as goal

-- those that were looked at lie in the block
pub record Looked (l : goal.Live-loop-pair) : Type 0 where
  pub first : l.first ≡ l.fn.block.first
  pub last : l.last ≡ l.fn.block.last
  pub rest : outside l.fn.block l.pair-items ≡ outside l.fn.block (drop l.pair-index l.pair-items)

abbrev pub invariant-loop-pair : goal.invariant-loop-pair
invariant-loop-pair l = Looked l
