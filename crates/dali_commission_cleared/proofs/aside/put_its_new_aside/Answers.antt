use Rattle.dali_commission_cleared.proofs.Filled.{new_aside}
use Rattle.dali_commission_cleared.proofs.aside.put_its_new_aside.Goals as goal

pub returns : goal.returns
returns g c =
    new_aside g.F.Stores.made g.F.Stores.saw (g.S.Voice.told c.args.system.now) c.args.stores.now _ _ _ c.in_ok-place.place c.put_one_aside.result
    c.in_ok-place.ensures c.deref.ensures c.put_one_aside.ensures
