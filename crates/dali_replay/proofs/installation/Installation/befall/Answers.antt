use Rattle.dali_replay.proofs.InStepLemmas.{outside_installed}
use Rattle.dali_replay.proofs.installation.Installation.befall.Goals as goal

pub invariant_of-self : goal.invariant_of-self
invariant_of-self c = outside_installed c.self.inside.site c.befall.new.self c.self.inside.stores.items c.args.what c.befall.result
    c.befall.ensures.befell c.befall.ensures.unchanged c.self.invariant
