use Rattle.std.proofs.Common.{◌∙◌, sym, ap}
use Rattle.dali_line.{specs.Shares.Tally, proofs.Counts.whole}
use Rattle.dali_line.proofs.counted.CountedSite.audit_driver.Goals as goal

pub returns-clause-found : goal.returns-clause-found
returns-clause-found g c = record {
  sound = record { run = c.is_safe.ensures.run; safe = c.is_safe.ensures.safe };
  promise = c.is_safe.ensures.promise;
  share = sym (c.audit_driver.ensures.exact ∙ ap (λ (t : Tally). t.driver) c.args.self.now.exact);
}

pub returns-clause-whole : goal.returns-clause-whole
returns-clause-whole g c = whole _ _ _ c.is_safe.ensures.run c.is_safe.ensures.few
