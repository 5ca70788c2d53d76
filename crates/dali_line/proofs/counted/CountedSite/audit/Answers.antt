use Rattle.std.proofs.Common.{◌∙◌, sym, ap}
use Rattle.dali_line.{specs.Shares.Tally, specs.Shares.count_at, proofs.Counts.count_at-counts_of}
use Rattle.dali_line.proofs.counted.CountedSite.audit.Goals as goal

pub returns-clause-found : goal.returns-clause-found
returns-clause-found g c = record {
  sound = record { run = c.is_safe.ensures.run; safe = c.is_safe.ensures.safe };
  promise = c.is_safe.ensures.promise;
  share = sym (c.audit.ensures.exact ∙ ap (λ (t : Tally). count_at t c.args.port.now.controller) c.args.self.now.exact
      ∙ count_at-counts_of _ _ _ _ c.is_safe.ensures.run c.is_safe.ensures.few);
}
