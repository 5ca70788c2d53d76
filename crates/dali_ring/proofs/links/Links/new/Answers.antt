use Rattle.std.proofs.Common.{◌-◌, arith, subst}
use Rattle.dali_ring.proofs.Begins.{Begun, begun_first, begun_linked, begun_waiting}
use Rattle.dali_ring.proofs.links.Links.new.Goals as goal

pub loop-list-init : goal.loop-list-init
loop-list-init g c = begun_first _ _ c.in_ok-slots.ensures

pub returns-clause-linked : goal.returns-clause-linked
returns-clause-linked g c =
    begun_linked _ _ _ c.args.capacity (c.args.capacity - 1)
    (subst (λ k. Begun c.loop-list.slots c.args.capacity k) (omega (arith, c.loop-list-test.false, c.loop-list.auto.list-end)) c.loop-list.invariant)
    (omega (arith, c.requires.least)) c.write-2.ensures c.write-3.ensures c.requires.most

pub returns-clause-waiting : goal.returns-clause-waiting
returns-clause-waiting g c =
    begun_waiting _ _ _ c.args.capacity (c.args.capacity - 1)
    (subst (λ k. Begun c.loop-list.slots c.args.capacity k) (omega (arith, c.loop-list-test.false, c.loop-list.auto.list-end)) c.loop-list.invariant)
    (omega (arith, c.requires.least)) c.write-2.ensures c.write-3.ensures
