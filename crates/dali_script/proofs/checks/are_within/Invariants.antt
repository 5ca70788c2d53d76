use Rattle.std.proofs.Common.{◌≡◌, ℕ, take}
use Rattle.dali_script.specs.Records.{HasAddress, InBlock}
use Rattle.dali_script.proofs.checks.are_within.Given as goal

-- those that were looked at
pub record Looked (l : goal.Live-loop-pair) : Type 0 where
  pub first : l.first ≡ l.fn.block.first
  pub last : l.last ≡ l.fn.block.last
  pub within : (a : ℕ) → HasAddress (take l.pair-index l.pairs) a → InBlock l.fn.block a

abbrev pub invariant-loop-pair : goal.invariant-loop-pair
invariant-loop-pair l = Looked l
