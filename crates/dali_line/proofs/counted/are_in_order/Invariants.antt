use Rattle.std.proofs.Common.{◌≡◌, ◌<◌, ℕ, slice_index_or}
use Rattle.dali_line.specs.Shares.{no_share}
use Rattle.dali_line.proofs.counted.are_in_order.Given as goal

abbrev pub invariant-loop-place : goal.invariant-loop-place
invariant-loop-place g l = (i : ℕ) → i < l.place → (slice_index_or l.ports i no_share).controller ≡ i
