use Rattle.std.{proofs.Common.{◌≡◌, drop, ◌==◌}, specs.List.list_any}
use Rattle.dali_events.proofs.used.some_drawn.Given as goal

abbrev pub invariant-loop-one : goal.invariant-loop-one
invariant-loop-one l =
    list_any (λ u. list_any (λ draw. u.random == draw) l.draws) (drop l.one-index l.used)
    ≡ list_any (λ u. list_any (λ draw. u.random == draw) l.fn.draws) l.fn.used
