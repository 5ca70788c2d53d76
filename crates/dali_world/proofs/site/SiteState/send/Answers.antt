use Rattle.std.proofs.Common.{refl}
use Rattle.dali_events.specs.declared.event.Event.TheVariants as event
use Rattle.dali_world.proofs.Logs.{site_goes_on, sent_room, send_known}
use Rattle.dali_world.proofs.site.SiteState.send.Goals as goal

pub send-heard-requires-clause-room : goal.send-heard-requires-clause-room
send-heard-requires-clause-room c =
    sent_room _ _ _ _ _ c.args.request c.args.trouble c.self.view_is c.self.invariant c.requires.may c.requires.draws c.requires.sendable

pub invariant_of-self : goal.invariant_of-self
invariant_of-self c =
    site_goes_on _ _ _ _ _ _ _ _ (event.Sent c.args.request.sender c.args.request.frame c.send-heard.result) c.self.view_is c.self.invariant c.requires.room
    c.send-heard.ensures.moves (send_known _ _ _ _ c.args.request c.send-heard.result c.self.invariant c.send-heard.ensures.goes_on)
    c.append.ensures.items c.append.ensures.capacity refl
