use Rattle.std.specs.Prelude.{ℕ, ◌<◌, ◌≤◌}
use Rattle.dali_script.specs.Records.{HasAddress}
use Rattle.dali_script.proofs.reading.Records.first_free.Given as goal

abbrev pub invariant-loop-number : goal.invariant-loop-number
invariant-loop-number l = (c : ℕ) → l.fn.self.block.first ≤ c → c < l.number → HasAddress l.fn.self.reserved c
