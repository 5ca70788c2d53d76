use Rattle.dali_ring.proofs.Waiting.{h, free_place, appended}
use Rattle.dali_ring.proofs.links.Links.append.Goals as goal

pub relocate-requires-clause-held : goal.relocate-requires-clause-held
relocate-requires-clause-held g c = h _ _ _ c.requires.linked

pub relocate-requires-clause-place : goal.relocate-requires-clause-place
relocate-requires-clause-place g c = free_place _ _ _ c.requires.linked c.requires.room

pub returns-clause-linked : goal.returns-clause-linked
returns-clause-linked g c =
    (appended _ _ _ c.requires.linked _ _ _ _ _ c.requires.list c.requires.room c.relocate.ensures.capacity c.relocate.ensures.held).1

pub returns-clause-waiting : goal.returns-clause-waiting
returns-clause-waiting g c =
    (appended _ _ _ c.requires.linked _ _ _ _ _ c.requires.list c.requires.room c.relocate.ensures.capacity c.relocate.ensures.held).0
