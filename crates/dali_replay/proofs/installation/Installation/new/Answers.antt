use Rattle.dali_replay.proofs.InStepLemmas.{new_installed}
use Rattle.dali_replay.proofs.installation.Installation.new.Goals as goal

pub invariant_of-result : goal.invariant_of-result
invariant_of-result c = new_installed c.args.plan 64 65536 c.in-Ok.site c.in_ok-stores.stores.items c.in-Ok.ensures.ok
    (cc (c.in_ok-stores.ensures, c.blocks-2.ensures.value))
