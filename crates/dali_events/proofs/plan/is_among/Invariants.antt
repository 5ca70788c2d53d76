use Rattle.std.{proofs.Common.{◌≡◌, drop, ◌==◌, ◌||◌}, specs.List.list_any}
use Rattle.dali_events.proofs.plan.is_among.Given as goal

abbrev pub invariant-loop-other : goal.invariant-loop-other
invariant-loop-other l = (l.found || list_any (λ other. l.draw == other) (drop l.other-index l.others)) ≡ list_any (λ other. l.fn.draw == other) l.fn.others
