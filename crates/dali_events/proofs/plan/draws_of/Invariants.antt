use Rattle.std.{proofs.Common.{◌≡◌, take, drop, false, nat_lt}, specs.List.list_any}
use Rattle.dali_events.proofs.plan.draws_of.Given as goal

abbrev pub invariant-loop-draw : goal.invariant-loop-draw
invariant-loop-draw l = record {
  made : l.made.items ≡ take l.draw-index l.draws;
  small : list_any (λ draw. nat_lt 0xFFFFFE draw) (drop l.draw-index l.draws) ≡ false;
}
