use Rattle.dali_commission_cleared.proofs.Filled.{split, one_more}
use Rattle.dali_commission_cleared.proofs.aside.+push_filled.Goals as goal

pub returns : goal.returns
returns g t c =
    one_more g.F.Stores.saw c.args.stores.now _ c.name-item.result _ _ _ _ _ c.push_filled.result
    (split _ _ c.name-item.is c.in-len1-up.len_at_least) c.deref.ensures c.in_ok-add_filled.ensures c.push_filled.ensures
