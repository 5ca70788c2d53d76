use Rattle.dali_commission_asked.proofs.Checked.{has_checked}
use Rattle.dali_commission_asked.proofs.checking.CheckingBorrowerSession.take.Goals as goal

pub returns : goal.returns
returns g c =
    has_checked _ _ _ _ _ _ _ _ _ _ _ _ c.checked_over-came.ensures.0 _ c.told.new.report _ _ c.checked_over-came.ensures.1
    c.checked_over-came.ensures.2 c.checked_over-came.ensures.3 c.told.ensures.report c.told.ensures.told c.told.ensures.ended
    c.checked_over-came.ensures.4
