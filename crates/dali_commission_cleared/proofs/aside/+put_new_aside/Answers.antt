use Rattle.dali_commission_cleared.proofs.Filled.{split, more_aside}
use Rattle.dali_commission_cleared.proofs.aside.+put_new_aside.Goals as goal

pub returns : goal.returns
returns g t c =
    more_aside g.F.Stores.made g.F.Stores.saw (g.S.Voice.told c.args.system.now) c.args.stores.now _ _ _ c.name-item.result _ _ c.put_new_aside.result
    (split _ _ c.name-item.is c.in-len1-up.len_at_least) c.deref.ensures c.in_ok-put_its_new_aside.ensures c.put_new_aside.ensures
