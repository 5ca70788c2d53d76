use Rattle.std.proofs.Common.{sym, ◌∙◌}
use Rattle.dali_ring.proofs.{Sweeps.swept_first, Sweeps.swept_end, Sweeps.swept_out, Sweeps.swept_on, Sweeps.swept_place, Waiting.place_within}
use Rattle.dali_ring.proofs.links.Links.sweep.Goals as goal

pub loop-item-init : goal.loop-item-init
loop-item-init g c = swept_first _ _ _ _ _ _ c.requires.linked

pub behind-requires-clause-place : goal.behind-requires-clause-place
behind-requires-clause-place g c = let i = c.loop-item.invariant in (i.0, i.1, i.2.at)

pub detach-requires-clause-place : goal.detach-requires-clause-place
detach-requires-clause-place g c =
    let i = c.loop-item.invariant in
    swept_place _ _ _ _ i.0 i.1 _ i.2.at (c.in-Some.ensures i.0 i.1 i.2.at)

pub loop-item-smaller-then-sender : goal.loop-item-smaller-then-sender
loop-item-smaller-then-sender g c =
    let i = c.loop-item.invariant in
    (swept_out _ _ _ _ _ _ _ _ _ _ c.requires.list i.0 i.1 _ i.2 (c.in-Some.ensures i.0 i.1 i.2.at) (sym c.sender.ensures ∙ c.if-sender.true) _ _ _
    c.detach.ensures.linked c.detach.ensures.capacity c.detach.ensures.waiting c.detach.ensures.place).1

pub loop-item-preserved-then-sender : goal.loop-item-preserved-then-sender
loop-item-preserved-then-sender g c =
    let i = c.loop-item.invariant in
    (swept_out _ _ _ _ _ _ _ _ _ _ c.requires.list i.0 i.1 _ i.2 (c.in-Some.ensures i.0 i.1 i.2.at) (sym c.sender.ensures ∙ c.if-sender.true)
    c.detach.new.self.slots c.detach.new.self.capacity c.detach.new.self.tails
    c.detach.ensures.linked c.detach.ensures.capacity c.detach.ensures.waiting c.detach.ensures.place).0

pub read-before-requires : goal.read-before-requires
read-before-requires g c = let i = c.loop-item.invariant in place_within _ _ _ i.2.linked _ _ i.0 i.1 c.requires.list i.2.at

pub loop-item-smaller : goal.loop-item-smaller
loop-item-smaller g c =
    let i = c.loop-item.invariant in
    (swept_on _ _ _ _ _ _ _ _ _ _ c.requires.list i.0 i.1 _ i.2 (c.in-Some.ensures i.0 i.1 i.2.at)
    (λ e. c.if-sender.false (c.sender.ensures ∙ e)) _ c.read-before.ensures).1

pub loop-item-preserved : goal.loop-item-preserved
loop-item-preserved g c =
    let i = c.loop-item.invariant in
    (swept_on _ _ _ _ _ _ _ _ _ _ c.requires.list i.0 i.1 _ i.2 (c.in-Some.ensures i.0 i.1 i.2.at)
    (λ e. c.if-sender.false (c.sender.ensures ∙ e)) _ c.read-before.ensures).0

pub returns-clause-waiting : goal.returns-clause-waiting
returns-clause-waiting g c =
    let i = c.loop-item.invariant in
    swept_end _ _ _ _ _ _ _ _ _ _ c.requires.list i.0 i.1 i.2 (c.in_default.ensures i.0 i.1 i.2.at)
