use Rattle.dali_events.{specs.Events.event_of, proofs.Invariant.Controllers.nobodys_step}
use Rattle.dali_line.proofs.Counts.{other_counted}
use Rattle.dali_line.proofs.counted.CountedSite.befall.Goals as goal

pub invariant_of-self-2 : goal.invariant_of-self-2
invariant_of-self-2 g c = record {
  exact = other_counted _ _ _ _ (event_of c.args.what) c.audit_driver.new.self.exact c.raise_driver.ensures.tally
      (nobodys_step c.args.what) c.in_ok-befall.ensures.befell.1;
}
