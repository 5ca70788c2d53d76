use Rattle.dali_ring.proofs.Waiting.{place_within, read_some, read_none}
use Rattle.dali_ring.proofs.links.Links.behind.Goals as goal

pub read-at-requires : goal.read-at-requires
read-at-requires g c = let p = c.requires.place in place_within _ _ _ c.requires.linked _ _ p.0 p.1 c.requires.list p.2

pub returns-then-at-self : goal.returns-then-at-self
returns-then-at-self g c = λ us rest p. read_some _ _ _ c.requires.linked _ _ us rest c.requires.list p _ _ c.read-at.ensures c.if-at-self.true c.read.ensures

pub returns-else-at-self : goal.returns-else-at-self
returns-else-at-self g c = λ us rest p. read_none _ _ _ c.requires.linked _ _ us rest c.requires.list p _ c.read-at.ensures c.if-at-self.false
