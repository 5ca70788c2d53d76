use Rattle.std.proofs.Common.{arith}
use Rattle.dali_commission_stores.proofs.Steps.{unless, failing, one_more, one_in_part, one_more_in_part}
use Rattle.dali_commission_stores.proofs.settling.+goes_on.Goals as goal

pub returns-clause-goes_on : goal.returns-clause-goes_on
returns-clause-goes_on g t c =
    one_more g.F.Stores.made c.args.swap.now c.args.from c.args.to c.count.result c.in-Some.step c.step_after.result c.args.stores.now
    c.does.new.stores c.goes_on.new.stores c.goes_on.result c.in-Some.is c.step_after.ensures c.count.ensures.value
    (omega arith) c.in_ok-does.ensures.done c.goes_on.ensures.goes_on

pub returns-clause-left : goal.returns-clause-left
returns-clause-left g t c =
    unless _ _ _ (λ rest. one_more_in_part g.F.Stores.made g.F.Stores.began c.args.swap.now c.args.from c.args.to c.count.result c.in-Some.step
    c.step_after.result c.args.stores.now c.does.new.stores c.goes_on.new.stores c.in-Some.is c.step_after.ensures c.count.ensures.value
    (omega arith) c.in_ok-does.ensures.done rest) c.goes_on.ensures.left

pub returns-in_err-does-clause-left : goal.returns-in_err-does-clause-left
returns-in_err-does-clause-left g t c =
    failing _ _ (one_in_part g.F.Stores.made g.F.Stores.began c.args.swap.now c.args.from c.args.to c.count.result c.in-Some.step c.step_after.result
    c.args.stores.now c.does.new.stores c.in-Some.is c.step_after.ensures c.count.ensures.value (omega arith) c.in_err-does.ensures.left)
