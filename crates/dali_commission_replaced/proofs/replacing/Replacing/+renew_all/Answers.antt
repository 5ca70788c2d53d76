use Rattle.dali_commission_replaced.proofs.Finished.{split}
use Rattle.dali_commission_replaced.proofs.Given.{one_renewed}
use Rattle.dali_commission_replaced.proofs.replacing.Replacing.+renew_all.Goals as goal

pub returns : goal.returns
returns g t c =
    one_renewed g.F.Open.Keep.kept g.F.Open.Keep.block g.F.Stores.made g.F.Stores.saw g.F.Stores.opens c.args.first.now c.deref.result.now c.name-item.result
    c.args.names.now _ c.old-item.result c.args.olds.now _ c.args.stores.now c.renew.new.stores c.renew_all.new.stores c.in_ok-renew.field-0
    c.args.news.now.items c.add.new.list.items c.renew_all.new.news.items c.renew_all.result (split _ _ c.name-item.is c.in-len1-up.len_at_least)
    (split _ _ c.old-item.is c.in-len1-up-olds.len_at_least) c.deref.ensures
    (c.in_ok-renew.ensures.made, c.in_ok-renew.ensures.seen, c.in_ok-renew.ensures.lent) c.in_ok-add.ensures c.renew_all.ensures
