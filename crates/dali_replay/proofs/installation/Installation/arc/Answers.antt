use Rattle.dali_events.specs.declared.event.Event.TheVariants as event
use Rattle.dali_replay.proofs.InStepLemmas.{asked_installed}
use Rattle.dali_replay.proofs.installation.Installation.arc.Goals as goal

pub invariant_of-self : goal.invariant_of-self
invariant_of-self c = asked_installed c.self.inside.site c.arc.new.self c.self.inside.stores.items
    (event.Offered c.in_ok-c.c c.args.frame) _ c.arc.result tt c.arc.ensures.offered c.arc.ensures.unchanged c.self.invariant
