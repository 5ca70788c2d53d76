use Rattle.std.proofs.Common.{rules}
use Rattle.dali_commissioning.proofs.Tried.{tried_more}
use Rattle.dali_commissioning.proofs.unaddressed.put_to_the_end.Goals as goal

pub loop-preserved : goal.loop-preserved
loop-preserved g c = record {
  tried = tried_more _ _ _ _ _ _ c.loop.invariant.tried c.in-Ok-None.ensures.put c.in-Ok-None.field-0-is;
  lost = λ some. search rules;
}
