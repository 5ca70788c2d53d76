use Rattle.std.proofs.Common.{ap, refl}
use Rattle.dali_commission_mended.specs.Tellings.{with_enrolled}
use Rattle.dali_commission_mended.proofs.Mended.{all_mended}
use Rattle.dali_commission_mended.proofs.running.Running.mends.Goals as goal

pub returns : goal.returns
returns g c =
    all_mended _ _ _ _ _ _ g.R.Read.remaining g.W.Write.contents _ _
    (record { named = c.new.result; missing = c.new-2.result; block = c.args.self.now.setup.now.block })
    c.new-3.result.items _ _ c.args.session.now c.over-ended.new.session _ c.over-ended.result c.new.ensures.items c.new-2.ensures.items refl
    c.new-3.ensures.items c.over-ended.ensures (ap (λ n. with_enrolled c.over-ended.new.session n) c.saturating_add-session.ensures)
