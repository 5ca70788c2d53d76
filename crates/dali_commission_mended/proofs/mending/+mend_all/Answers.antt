use Rattle.std.proofs.Common.{refl}
use Rattle.dali_replacement.proofs.Putting.{split}
use Rattle.dali_commission_mended.proofs.Cut.{unnoted, later_cut}
use Rattle.dali_commission_mended.proofs.mending.+mend_all.Goals as goal

pub returns-in_err-add-in-Ok-clause-failed : goal.returns-in_err-add-in-Ok-clause-failed
returns-in_err-add-in-Ok-clause-failed g t c =
    unnoted c.args.table.now _ c.short-item.result _ c.in-Ok.mending _ _ _ c.from_residual.result (split _ _ c.short-item.is c.in-len1-up.len_at_least)
    c.in-Ok.ensures.mended refl

pub returns-clause-failed : goal.returns-clause-failed
returns-clause-failed g t c =
    later_cut c.args.table.now _ c.short-item.result _ c.in-Ok.mending _ _ _ c.mend_all.result (split _ _ c.short-item.is c.in-len1-up.len_at_least)
    c.in-Ok.ensures.mended c.mend_all.ensures.failed
