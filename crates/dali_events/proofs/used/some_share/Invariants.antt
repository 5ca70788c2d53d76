use Rattle.std.proofs.Common.{◌≡◌, drop, ◌==◌}
use Rattle.dali_events.specs.{Plan.any_pair, Used.mark_of}
use Rattle.dali_events.proofs.used.some_share.Given as goal

abbrev pub invariant-loop-i : goal.invariant-loop-i
invariant-loop-i l =
    any_pair (λ u v. mark_of l.mark u == mark_of l.mark v) (drop l.i l.used) ≡ any_pair (λ u v. mark_of l.fn.mark u == mark_of l.fn.mark v) l.fn.used
