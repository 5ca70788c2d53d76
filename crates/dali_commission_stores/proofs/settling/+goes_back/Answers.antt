use Rattle.std.proofs.Common.{arith}
use Rattle.dali_commission_stores.proofs.Steps.{unless, failing, one_back, back_in_part, more_back_in_part}
use Rattle.dali_commission_stores.proofs.settling.+goes_back.Goals as goal

pub returns-clause-goes_back : goal.returns-clause-goes_back
returns-clause-goes_back g t c =
    one_back g.F.Stores.made c.args.swap.now c.args.from c.args.stores.now c.does.new.stores
    c.goes_back.new.stores c.goes_back.result (omega arith) c.in_ok-does.ensures.done c.goes_back.ensures.goes_back

pub returns-clause-left : goal.returns-clause-left
returns-clause-left g t c =
    unless _ _ _ (λ rest. more_back_in_part g.F.Stores.made g.F.Stores.began c.args.swap.now c.args.from c.args.stores.now c.does.new.stores
    c.goes_back.new.stores (omega arith) c.in_ok-does.ensures.done rest) c.goes_back.ensures.left

pub returns-in_err-does-clause-left : goal.returns-in_err-does-clause-left
returns-in_err-does-clause-left g t c =
    failing _ _ (back_in_part g.F.Stores.made g.F.Stores.began c.args.swap.now c.args.from c.args.stores.now c.does.new.stores (omega arith)
    c.in_err-does.ensures.left)
