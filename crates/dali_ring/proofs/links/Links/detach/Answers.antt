use Rattle.std.proofs.Common.{map, Some}
use Rattle.dali_ring.proofs.Waiting.{h, place_is, detached, place_left}
use Rattle.dali_ring.proofs.links.Links.detach.Goals as goal

pub relocate-requires-clause-held : goal.relocate-requires-clause-held
relocate-requires-clause-held g c = h _ _ _ c.requires.linked

pub relocate-requires-clause-place : goal.relocate-requires-clause-place
relocate-requires-clause-place g c =
    let p = c.requires.place in
    (map (λ x. Some x) p.0, Some p.1, map (λ x. Some x) p.2, place_is _ _ _ c.requires.linked _ _ p.0 p.2 p.1 c.requires.list p.3)

pub returns-clause-linked : goal.returns-clause-linked
returns-clause-linked g c =
    let p = c.requires.place in
    (detached _ _ _ c.requires.linked _ _ _ _ _ p.0 p.2 p.1 c.requires.list c.relocate.ensures.capacity p.3 c.relocate.ensures.held).1

pub returns-clause-waiting : goal.returns-clause-waiting
returns-clause-waiting g c = λ us x rest p.
    (detached _ _ _ c.requires.linked _ _ _ _ _ us rest x c.requires.list c.relocate.ensures.capacity p c.relocate.ensures.held).0

pub returns-clause-place : goal.returns-clause-place
returns-clause-place g c = λ us x rest p.
    place_left c.args.self.now.slots _ c.args.self.now.capacity _ _ _ us rest c.requires.linked.five c.requires.list
    (detached _ _ _ c.requires.linked _ _ _ _ _ us rest x c.requires.list c.relocate.ensures.capacity p c.relocate.ensures.held).0
    (c.relocate.ensures.way _ _ _ (place_is _ _ _ c.requires.linked _ _ us rest x c.requires.list p))
