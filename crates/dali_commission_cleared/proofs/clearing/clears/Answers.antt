use Rattle.std.proofs.Common.{inl, inr}
use Rattle.dali_commission_cleared.proofs.Cleared.{ends_cut, ends_so}
use Rattle.dali_commission_cleared.proofs.clearing.clears.Goals as goal
use Rattle.dali_commission_cleared.proofs.clearing.clears.Goals.{in-Ok, in-Err}

pub returns : goal.returns
returns g c = elim (c.match-came_to.branch) [
  | in-Ok w ↦ inr (
    c.put_aside.new.stores,
    c.in_ok-aside.ensures,
    c.in_ok-put_new_aside.ensures,
    inr (ends_so _ _ _ _ c.match-came_to.came w.in-Ok.came c.told.result c.told.new.report w.came-is c.told.ensures.ended c.told.ensures.report
        c.told.ensures.told w.in-Ok.ensures.clears),
  )
  | in-Err w ↦ inr (
    c.put_aside.new.stores,
    c.in_ok-aside.ensures,
    c.in_ok-put_new_aside.ensures,
    inl (ends_cut w.in-Err.fault w.lines.result _ _ _ w.failure_of.result c.match-came_to.came w.bare-came.result c.told.result c.told.new.report
        w.came-is c.told.ensures.ended c.told.ensures.report w.bare-came.ensures w.failure_of.ensures w.lines.ensures w.in-Err.ensures.failed),
  )
]
