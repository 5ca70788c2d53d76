use Rattle.dali_commission_cleared.proofs.Cleared.{cleared, rounds_cut}
use Rattle.dali_commission_cleared.proofs.clearing.came_to.Goals as goal

pub returns-clause-clears : goal.returns-clause-clears
returns-clause-clears g c =
    cleared _ _ _ _ _ _ _ _ _ c.in_ok-replies.ensures.cleared c.deref.ensures.0 c.in_ok-is_there.ensures.asked c.deref-2.ensures.0
    c.came_of.ensures.ended c.came_of.ensures.report

pub returns-in_err-replies-clause-failed : goal.returns-in_err-replies-clause-failed
returns-in_err-replies-clause-failed g c =
    rounds_cut c.in_err-replies.field-0.0 _ _ c.from_residual.result c.from_residual.ensures.1 c.in_err-replies.ensures.failed
