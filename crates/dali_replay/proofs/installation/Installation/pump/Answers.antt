use Rattle.dali_replay.proofs.InStepLemmas.{pump_installed}
use Rattle.dali_replay.proofs.installation.Installation.pump.Goals as goal

pub invariant_of-self : goal.invariant_of-self
invariant_of-self c = pump_installed c.self.inside.site c.pump.new.self c.self.inside.stores.items c.args.trouble c.pump.result c.pump.ensures.pumped
    c.pump.ensures.unchanged c.self.invariant
