use Rattle.std.proofs.Common.{◌≡◌, ◌∙◌, sym, subst, None}
use Rattle.dali_commission_asked.specs.Sharing.{reserved_in}
use Rattle.dali_commission_mended.proofs.Mended.{mends_beside}
use Rattle.dali_commission_mended.proofs.mending.mends_beside_others.Goals as goal

pub returns : goal.returns
returns g c =
    mends_beside g.F.Open.Keep.is_up g.F.Open.Keep.is_sound g.F.Open.Keep.holds g.F.Open.Keep.kept g.F.Open.Keep.block g.F.Stores.saw
    g.F.Stores.opens g.R.Read.remaining g.W.Write.contents _ _ _ _ _ _ _ c.read_all.new.tables.items _ _ c.lend-done.result c.or_say.result
    c.new-tables.ensures.items c.in_ok-read_all.ensures
    (subst (λ ts. reserved_in c.args.wanted.now.block ts ≡ None) c.deref.ensures.value (sym c.reserved_in.ensures ∙ c.in_default.is))
    c.lend-done.ensures.lent c.or_say.ensures.same
