use Rattle.std.proofs.Common.{refl}
use Rattle.dali_events.specs.declared.event.Event.TheVariants as event
use Rattle.dali_world.proofs.Logs.{site_goes_on, lost_room}
use Rattle.dali_world.proofs.site.SiteState.destroy.Goals as goal

pub destroy-requires-clause-room : goal.destroy-requires-clause-room
destroy-requires-clause-room c = lost_room _ _ _ _ _ c.args.request c.args.set c.self.view_is c.self.invariant c.requires.may c.requires.draws

pub invariant_of-self : goal.invariant_of-self
invariant_of-self c =
    site_goes_on _ _ _ _ _ _ _ _ (event.Destroyed c.args.request.sender c.args.request.frame c.args.set) c.self.view_is c.self.invariant c.requires.room
    c.destroy.ensures tt c.append.ensures.items c.append.ensures.capacity refl
