use Rattle.std.proofs.Common.{refl}
use Rattle.dali_events.specs.declared.event.Event.TheVariants as event
use Rattle.dali_world.proofs.Logs.{site_goes_on}
use Rattle.dali_world.proofs.site.SiteState.up.Goals as goal

pub invariant_of-self : goal.invariant_of-self
invariant_of-self c =
    site_goes_on _ _ _ _ _ _ _ _ (event.Up c.args.c c.in-Some.kept) c.self.view_is c.self.invariant c.in_ok-check_room.ensures.ok
    (c.up.ensures c.in-Some.kept c.in-Some.ensures) tt
    c.append.ensures.items c.append.ensures.capacity refl
