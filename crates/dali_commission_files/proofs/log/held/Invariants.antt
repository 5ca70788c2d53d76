use Rattle.std.proofs.Common.{ℕ, ◌≡◌, ◌<◌}
use Rattle.dali_commission_files.specs.Logs.{sum_before, Holds}
use Rattle.dali_commission_files.proofs.log.held.Given as goal

abbrev pub invariant-loop-i : goal.invariant-loop-i
invariant-loop-i l =
    (l.sum ≡ sum_before l.fn.head l.fn.size l.fn.frames l.i) × ((k : ℕ) → k < l.i → Holds l.fn.head l.fn.size l.fn.frames k)
