use Rattle.std.proofs.Common.{◌≡◌, false, subst, sym}
use Rattle.dali_commission_replaced.specs.Asking.{is_given}
use Rattle.dali_commission_replaced.proofs.Cut.{not_first}
use Rattle.dali_commission_replaced.proofs.replacing.Replacing.first.Goals as goal

pub returns-else-is_given-clause-failed : goal.returns-else-is_given-clause-failed
returns-else-is_given-clause-failed g c =
    not_first g.F.Open.Keep.is_up g.F.Open.Keep.is_sound g.F.Open.Keep.holds g.F.Open.Keep.kept g.F.Open.Keep.block g.F.Stores.saw g.F.Stores.opens
    g.R.Read.remaining g.W.Write.contents _ _ _ _ _ c.args.self.now.names.now c.args.giver _ c.in-Some.name.now c.args.driver.now c.give.new.driver
    c.give.result c.in-Some.ensures (subst (λ k. is_given k ≡ false) c.come-2.ensures (sym c.if-is_given.ensures)) c.give.ensures.failed
