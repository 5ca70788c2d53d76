use Rattle.dali_commission_replaced.proofs.Finished.{found_so, found_in_part}
use Rattle.dali_commission_replaced.proofs.finishing.finishes_found.Goals as goal

pub returns-in-Some-clause-finished : goal.returns-in-Some-clause-finished
returns-in-Some-clause-finished g c =
    found_so g.F.Stores.made g.F.Stores.saw (g.S.Voice.told c.args.system.now) _ c.args.name.now _ _ c.in-Some.swap c.in_ok-swap.field-0 c.found.result
    c.finished.result c.in-Some.is c.in_ok-swap.ensures.same c.found.ensures c.finished.ensures.finished

pub returns-in-Some-clause-left : goal.returns-in-Some-clause-left
returns-in-Some-clause-left g c =
    found_in_part g.F.Stores.made g.F.Stores.began g.F.Stores.saw c.args.name.now _ _ c.in-Some.swap c.in_ok-swap.field-0 c.found.result
    c.finished.result c.in-Some.is c.in_ok-swap.ensures.same c.found.ensures c.finished.ensures.left
