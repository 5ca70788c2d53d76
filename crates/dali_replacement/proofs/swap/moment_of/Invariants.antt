use Rattle.std.proofs.Common.{◌≡◌, ℕ, ◌<◌, length}
use Rattle.dali_replacement.specs.Swap.{AreAt}
use Rattle.dali_replacement.proofs.swap.moment_of.Given as goal

-- at none of the moments that were looked at
abbrev pub invariant-loop-moment : goal.invariant-loop-moment
invariant-loop-moment l = record {
  count : l.count ≡ length l.files;
  none : (m : ℕ) → m < l.moment → AreAt (length l.files) m 0 l.files → ⊥;
}
