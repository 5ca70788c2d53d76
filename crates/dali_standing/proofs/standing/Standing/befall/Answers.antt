use Rattle.dali_standing.proofs.standing.Standing.befall.Goals as goal

pub returns-in-Lapse : goal.returns-in-Lapse
returns-in-Lapse c = rw c.in-Lapse.is c.lapse.ensures
