use Rattle.dali_commissioning.specs.Drivers.{talk_of}
use Rattle.dali_commission_mended.specs.Mends.{HasPut}
use Rattle.dali_commission_mended.proofs.mending.conduct.Given as goal

abbrev pub invariant-loop : goal.invariant-loop
invariant-loop g l = HasPut l.fn.mending l.mending
    (talk_of g.R.Read.remaining g.W.Write.contents l.fn.driver) (talk_of g.R.Read.remaining g.W.Write.contents l.driver)
