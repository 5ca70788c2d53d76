use Rattle.std.proofs.Common.{List, refl, subst}
use Rattle.dali_events.specs.World.{controller_at}
use Rattle.dali_events.specs.declared.event.Event.TheVariants as event
use Rattle.dali_world.specs.Site.{SiteState, world}
use Rattle.dali_line.{specs.Commits.state_of, specs.Commits.MayComeUp, specs.declared.commits.CommitState.CommitState, proofs.Counts.other_counted}
use Rattle.dali_line.proofs.counted.CountedSite.up.Goals as goal

pub invariant_of-self : goal.invariant_of-self
invariant_of-self g c = record {
  exact = other_counted _ _ _ _ (event.Up c.args.c c.in-Ok.ensures.up.0)
      c.audit_driver.new.self.exact c.raise_driver.ensures.tally refl c.in-Ok.ensures.up.2;
}

pub returns-in-Ok-clause-settled : goal.returns-in-Ok-clause-settled
returns-in-Ok-clause-settled g c =
    let free = c.if-is_barred.ensures.free refl c.in-Ok.ensures.up.2.allowed.0 in
    let found = subst (λ (s : SiteState). MayComeUp (state_of c.audit_driver.new.self.commits c.args.c)
    (controller_at (world s) c.args.c).records c.args.copy.now) c.audit_driver.ensures.site free in
    subst (λ (x : List CommitState). MayComeUp (state_of x c.args.c) (controller_at (world c.args.self.now.site) c.args.c).records c.args.copy.now)
    c.audit_driver.ensures.commits found
