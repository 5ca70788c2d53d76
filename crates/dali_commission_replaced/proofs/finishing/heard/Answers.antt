use Rattle.dali_commission_replaced.proofs.Cut.{others_away, last_away}
use Rattle.dali_commission_replaced.proofs.finishing.heard.Goals as goal

pub returns-in_err-others-clause-failed : goal.returns-in_err-others-clause-failed
returns-in_err-others-clause-failed g c =
    others_away _ _ _ _ _ _ _ _ _ _ c.in_err-others.field-0.0 c.from_residual.result c.from_residual.ensures.1 c.in-Ok.ensures.all
    c.in_err-others.ensures.failed

pub returns-clause-failed : goal.returns-clause-failed
returns-clause-failed g c =
    last_away _ _ _ _ _ _ _ _ _ _ _ _ c.confirm.result c.in_ok-others.ensures.short c.in_ok-others.ensures.noted c.in-Ok.ensures.all
    c.in_ok-others.ensures.asked c.confirm.ensures.failed
