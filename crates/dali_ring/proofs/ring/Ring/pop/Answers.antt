use Rattle.std.proofs.Common.{sym}
use Rattle.dali_ring.proofs.Rings.{pop_place, popped_sum, popped_view}
use Rattle.dali_ring.proofs.ring.Ring.pop.Goals as goal

pub detach-requires-clause-place : goal.detach-requires-clause-place
detach-requires-clause-place g c = pop_place _ _ _ c.self.invariant.0 _ c.rank-list.ensures.range _ c.first-item.ensures (sym c.if-is_some.ensures)

pub invariant_of-self : goal.invariant_of-self
invariant_of-self g c = (
  c.detach.ensures.linked,
  popped_sum _ _ _ c.self.invariant.0 _ c.rank-list.ensures.range _ c.first-item.ensures
      (sym c.if-is_some.ensures) c.detach.new.self.slots c.detach.new.self.capacity c.detach.ensures.waiting _ c.self.invariant.1,
)

pub returns-then-is_some-clause-rest : goal.returns-then-is_some-clause-rest
returns-then-is_some-clause-rest g c =
    popped_view _ _ _ c.self.invariant.0 _ c.rank-list.ensures.range _ c.first-item.ensures
    (sym c.if-is_some.ensures) c.detach.new.self.slots c.detach.new.self.capacity c.detach.ensures.waiting _ _
    c.rank-list.ensures.value c.detach.ensures.capacity c.self.view_is
