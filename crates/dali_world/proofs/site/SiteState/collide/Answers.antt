use Rattle.std.proofs.Common.{refl, sym, ◌∙◌}
use Rattle.dali_events.specs.declared.event.Event.TheVariants as event
use Rattle.dali_events.specs.Troubles.{nobody_at_all}
use Rattle.dali_world.proofs.Logs.{site_goes_on, site_logs, lost_room, world_lists}
use Rattle.dali_world.proofs.site.SiteState.collide.Goals as goal

pub collide-requires-clause-room : goal.collide-requires-clause-room
collide-requires-clause-room c = lost_room _ _ _ _ _ c.args.request nobody_at_all c.self.view_is c.self.invariant c.requires.may c.requires.draws

pub invariant_of-self : goal.invariant_of-self
invariant_of-self c =
    site_goes_on _ _ _ _ _ _ _ _ (event.Collided c.args.request.sender c.args.request.frame c.in-Some.other.sender c.in-Some.other.frame)
    c.self.view_is c.self.invariant c.requires.room
    (rw c.in-Some.is at c.collide.ensures.moves) tt c.append.ensures.items c.append.ensures.capacity refl

pub invariant_of-self-in-None : goal.invariant_of-self-in-None
invariant_of-self-in-None c =
    site_goes_on _ _ _ _ _ _ _ _ (event.Destroyed c.args.request.sender c.args.request.frame nobody_at_all) c.self.view_is c.self.invariant c.requires.room
    (rw c.in-None.is at c.collide.ensures.moves) tt c.append-in-None.ensures.items c.append-in-None.ensures.capacity refl

pub returns-in-Some : goal.returns-in-Some
returns-in-Some c = (
  refl,
  refl,
  refl,
  (c.in-Some.other, world_lists _ _ _ _ _ c.in-Some.other c.self.view_is c.self.invariant (sym c.collide.ensures.other ∙ c.in-Some.is), refl, refl),
  site_logs _ _ _ _ _ _ _ (event.Collided c.args.request.sender c.args.request.frame c.in-Some.other.sender c.in-Some.other.frame)
      c.self.view_is c.self.invariant c.requires.room
      (rw c.in-Some.is at c.collide.ensures.moves) c.append.ensures.items,
)
