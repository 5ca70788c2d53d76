use Rattle.dali_events.{specs.Events.event_of, proofs.Invariant.Controllers.nobodys_step}
use Rattle.dali_world.{specs.Site.SiteState, proofs.Logs.site_goes_on, proofs.Logs.may_befall, proofs.Logs.nothing_known}
use Rattle.dali_world.proofs.site.SiteState.befall.Goals as goal

pub befall-requires : goal.befall-requires
befall-requires c = may_befall _ _ _ _ _ c.args.what c.self.view_is c.self.invariant c.in_ok-check_outside.ensures.ok.0

pub invariant_of-self : goal.invariant_of-self
invariant_of-self c =
    let inside = c.self.inside in
    let s : SiteState = record { plan = inside.plan; queue = inside.queue; room = inside.room; log = inside.log.items } in
    let items = rw c.event.ensures at c.append.ensures.items in
    site_goes_on s _ _ _ _ _ _ _ (event_of c.args.what) c.self.view_is c.self.invariant c.in_ok-check_outside.ensures.ok.1
    c.befall.ensures (nothing_known s c.args.what) items c.append.ensures.capacity (nobodys_step c.args.what)
