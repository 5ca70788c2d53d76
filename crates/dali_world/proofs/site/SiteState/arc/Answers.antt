use Rattle.std.proofs.Common.{refl}
use Rattle.dali_events.specs.declared.event.Event.TheVariants as event
use Rattle.dali_world.proofs.Logs.{step_few, step_goes_on}
use Rattle.dali_world.proofs.site.SiteState.arc.Goals as goal

pub count-requires-clause-few : goal.count-requires-clause-few
count-requires-clause-few c =
    step_few _ _ _ _ _ c.args.c c.self.view_is c.self.invariant c.in_ok-check_room.ensures.ok c.in_ok-check_up.ensures.ok.2

pub invariant_of-self : goal.invariant_of-self
invariant_of-self c =
    step_goes_on _ _ _ _ _ _ _ _ _ (event.Offered c.args.c c.args.frame) c.args.c c.self.view_is c.self.invariant c.in_ok-check_room.ensures.ok
    c.offer.ensures (λ d i a r is has. cc) tt c.append.ensures.items c.append.ensures.capacity c.in_ok-check_up.ensures.ok.2 c.count.ensures.shares refl
