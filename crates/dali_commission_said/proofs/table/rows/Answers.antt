use Rattle.dali_commission_said.proofs.Rows.{next, few_more}
use Rattle.dali_commission_said.proofs.table.rows.Goals as goal

pub loop-number-preserved : goal.loop-number-preserved
loop-number-preserved c = record {
  so_far = next _ _ c.loop-number.number c.in-Some.short _ _ _ c.loop-number.invariant.so_far c.enrolled.ensures.value
      c.in-Some.ensures.value c.random_at.ensures c.add_if.ensures;
  few = few_more _ _ c.loop-number.number c.in-Some.short _ c.loop-number.invariant.few c.add_if.ensures;
}
