use Rattle.dali_commission_replaced.proofs.Finished.{more_placed, split}
use Rattle.dali_commission_replaced.proofs.replacing.+add_places.Goals as goal

pub returns : goal.returns
returns g t c =
    more_placed g.F.Stores.saw c.args.stores.now _ c.name-item.result c.in_ok-place_of.field-0 _ _ _ _ _ c.add_places.result
    (split _ _ c.name-item.is c.in-len1-up.len_at_least) c.deref.ensures c.in_ok-place_of.ensures c.in_ok-add.ensures c.add_places.ensures
