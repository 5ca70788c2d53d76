use Rattle.dali_commissioning.specs.Drivers.{talk_of}
use Rattle.dali_commission_cleared.specs.Clearing.{HaveErased}
use Rattle.dali_commission_cleared.proofs.clearing.erase.Given as goal

abbrev pub invariant-loop : goal.invariant-loop
invariant-loop g l = HaveErased l.fn.eraser l.eraser
    (talk_of g.R.Read.remaining g.W.Write.contents l.fn.driver) (talk_of g.R.Read.remaining g.W.Write.contents l.driver)
