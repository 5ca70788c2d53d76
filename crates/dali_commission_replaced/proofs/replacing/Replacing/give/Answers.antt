use Rattle.dali_commission_replaced.proofs.Cut.{given_badly, not_looked}
use Rattle.dali_commission_replaced.proofs.Given.{given_well}
use Rattle.dali_commission_replaced.proofs.replacing.Replacing.give.Goals as goal

pub returns-clause-gave : goal.returns-clause-gave
returns-clause-gave g c =
    given_well g.F.Open.Keep.is_up g.F.Open.Keep.is_sound g.F.Open.Keep.holds g.F.Open.Keep.kept g.F.Open.Keep.block g.F.Stores.saw g.F.Stores.opens
    g.R.Read.remaining g.W.Write.contents _ _ _ _ _ _ _ _ _ c.args.driver.now c.look.new.driver c.renew.new.beside c.renew.result c.in-Ok.ensures.short
    c.table.ensures c.block.ensures c.in-Ok.ensures.seen c.renew.ensures.lent

pub returns-clause-failed : goal.returns-clause-failed
returns-clause-failed g c =
    given_badly g.F.Open.Keep.is_up g.F.Open.Keep.is_sound g.F.Open.Keep.holds g.F.Open.Keep.kept g.F.Open.Keep.block g.F.Stores.saw g.F.Stores.opens
    g.R.Read.remaining g.W.Write.contents _ _ _ _ _ _ _ _ _ _ c.args.driver.now c.look.new.driver c.renew.new.beside c.renew.result
    c.in-Ok.ensures.short c.table.ensures c.block.ensures c.in-Ok.ensures.seen c.renew.ensures.failed

pub returns-in-Err-clause-failed : goal.returns-in-Err-clause-failed
returns-in-Err-clause-failed g c =
    not_looked g.F.Open.Keep.is_up g.F.Open.Keep.is_sound g.F.Open.Keep.holds g.F.Open.Keep.kept g.F.Open.Keep.block g.F.Stores.saw g.F.Stores.opens
    g.R.Read.remaining g.W.Write.contents _ _ _ _ _ _ _ c.fault.result c.args.driver.now c.look.new.driver c.in-Err.fault _ c.fault.ensures
    c.in-Err.ensures.failed
