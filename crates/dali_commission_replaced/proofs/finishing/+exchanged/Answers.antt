use Rattle.std.proofs.Common.{ap, sym}
use Rattle.dali_commission_replaced.specs.Finishing.{last_of}
use Rattle.dali_commission_replaced.proofs.Finished.{more_finished, first_in_part, more_in_part, split}
use Rattle.dali_commission_replaced.proofs.finishing.+exchanged.Goals as goal

pub returns-in-Some-clause-finished : goal.returns-in-Some-clause-finished
returns-in-Some-clause-finished g t c =
    more_finished g.F.Stores.made g.F.Stores.saw (g.S.Voice.told c.args.system.now) _ _ c.name-item.result _ _ _ _ _ c.in_ok-done.done
    c.in_ok-later.field-0 _ (split _ _ c.name-item.is c.in-len1-up.len_at_least) c.deref.ensures c.in_ok-done.ensures.finished c.in_ok-later.ensures.finished
    (sym (ap (λ o. last_of c.in_ok-done.done o) c.in-Some.is))

pub returns-in-None-clause-finished : goal.returns-in-None-clause-finished
returns-in-None-clause-finished g t c =
    more_finished g.F.Stores.made g.F.Stores.saw (g.S.Voice.told c.args.system.now) _ _ c.name-item.result _ _ _ _ _ c.in_ok-done.done
    c.in_ok-later.field-0 _ (split _ _ c.name-item.is c.in-len1-up.len_at_least) c.deref.ensures c.in_ok-done.ensures.finished c.in_ok-later.ensures.finished
    (sym (ap (λ o. last_of c.in_ok-done.done o) c.in-None.is))

pub returns-in_err-done-clause-left : goal.returns-in_err-done-clause-left
returns-in_err-done-clause-left g t c =
    first_in_part g.F.Stores.made g.F.Stores.began g.F.Stores.saw (g.S.Voice.told c.args.system.now) _ _ c.name-item.result _ _ _ _ _
    c.finishes_found.result c.from_residual.result c.in_err-done.was (split _ _ c.name-item.is c.in-len1-up.len_at_least) c.deref.ensures
    c.finishes_found.ensures.left

pub returns-in_err-later-clause-left : goal.returns-in_err-later-clause-left
returns-in_err-later-clause-left g t c =
    more_in_part g.F.Stores.made g.F.Stores.began g.F.Stores.saw (g.S.Voice.told c.args.system.now) _ _ c.name-item.result _ _ _ _ _ _ c.in_ok-done.done
    c.exchanged.result c.from_residual-in_err-later.result c.in_err-later.was (split _ _ c.name-item.is c.in-len1-up.len_at_least) c.deref.ensures
    c.in_ok-done.ensures.finished c.exchanged.ensures.left
