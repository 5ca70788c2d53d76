use Rattle.std.proofs.Common.{rules}
use Rattle.dali_line.proofs.Counts.{pump_counted}
use Rattle.dali_line.proofs.counted.CountedSite.pump.Goals as goal

pub invariant_of-self-then-ne : goal.invariant_of-self-then-ne
invariant_of-self-then-ne g c =
    record {
      exact = pump_counted c.audit_driver.new.self.site c.pump.new.self _ _ c.args.trouble c.in_ok-report.report c.audit_driver.new.self.exact
          c.raise_driver.ensures.tally
          c.in_ok-report.ensures.pumped (λ same. search rules);
    }
