use Rattle.std.proofs.Common.{ap, ◌∙◌}
use Rattle.dali_controller.specs.Shorts.{has_short}
use Rattle.dali_commission_said.proofs.Heard.{next, few_more}
use Rattle.dali_commission_said.proofs.report.heard_of.Goals as goal

pub loop-number-preserved : goal.loop-number-preserved
loop-number-preserved c = record {
  so_far = next _ _ c.loop-number.number _ _ c.loop-number.invariant.so_far
      (c.has.ensures ∙ ap (λ a. has_short c.args.heard a) c.in-Some.ensures.value) c.add_heard.ensures;
  few = few_more _ _ c.loop-number.number c.loop-number.number _ c.loop-number.invariant.few c.add_heard.ensures;
}
