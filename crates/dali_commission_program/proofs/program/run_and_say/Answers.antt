use Rattle.std.proofs.Common.{inr}
use Rattle.dali_commission_program.proofs.Done.{some_of}
use Rattle.dali_commission_program.proofs.program.run_and_say.Goals as goal

pub returns-in-Some-clause-done : goal.returns-in-Some-clause-done
returns-in-Some-clause-done g c =
    inr (
      (some_of _ _ _ _ c.in-Some.is c.in-Ok.ensures).0,
      (some_of _ _ _ _ c.in-Some.is c.in-Ok.ensures).1,
      c.in-Some.asked,
      (some_of _ _ _ _ c.in-Some.is c.in-Ok.ensures).2,
      c.does_and_tells.ensures.done,
    )
