use Rattle.dali_arbiter.proofs.{Lists.put_seen, arbiter.Arbiter.offer.Goals.in-Ok, arbiter.Arbiter.offer.Goals.in-Err}
use Rattle.dali_arbiter.proofs.arbiter.Arbiter.offer.Goals as goal

pub returns-clause-put : goal.returns-clause-put
returns-clause-put c = elim c.match-push.branch [
  | in-Ok w ↦ rw w.result-is
      (put_seen _ _ _ _ _ c.self.invariant c.is_barred.ensures.least c.is_barred.ensures.most w.in-Ok.ensures.pushed c.self.view_is)
  | in-Err w ↦ rw w.result-is tt
]
