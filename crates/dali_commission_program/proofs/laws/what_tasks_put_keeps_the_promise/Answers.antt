use Rattle.dali_commission_program.proofs.Promised.{asks_on_bus, puts_on_bus}
use Rattle.dali_commission_program.proofs.laws.what_tasks_put_keeps_the_promise.Goals as goal

pub returns-clause-asked : goal.returns-clause-asked
returns-clause-asked g c = asks_on_bus c.programs_keep_the_promise.ensures.promise

pub returns-clause-put : goal.returns-clause-put
returns-clause-put g c =
    puts_on_bus c.programs_keep_the_promise.ensures.promise g.F.Open.Keep.is_up g.F.Open.Keep.is_sound g.F.Open.Keep.holds
