use Rattle.std.proofs.Common.{◌≡◌, ℕ, ◌<◌, false, get_or}
use Rattle.dali_gear.proofs.row.Row.look_for_pairs.Given as goal

abbrev pub invariant-loop-number : goal.invariant-loop-number
invariant-loop-number l = record {
  seen : l.some ≡ false → (k : ℕ) → k < l.number → get_or l.self-inside.paired k false ≡ false;
}
