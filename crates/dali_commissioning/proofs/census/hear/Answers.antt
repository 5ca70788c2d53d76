use Rattle.std.proofs.Common.{rules}
use Rattle.dali_commissioning.proofs.Asked.{asked_more, heard, given_up, tried_more}
use Rattle.dali_commissioning.proofs.census.hear.Goals as goal

pub returns-then-heard-wanted-clause-heard : goal.returns-then-heard-wanted-clause-heard
returns-then-heard-wanted-clause-heard g c = heard _ _ _ _ _ _
    (asked_more _ _ _ _ _ _ _ _ c.in-Ok.told c.loop.invariant.asked c.in-Ok.ensures.asked c.after-heard.ensures c.lost_after-lost.ensures)
    c.if-heard-wanted.true

pub returns-then-lost-eq-LOST-clause-lost : goal.returns-then-lost-eq-LOST-clause-lost
returns-then-lost-eq-LOST-clause-lost g c = λ _. given_up _ _ _ _ _ _
    (asked_more _ _ _ _ _ _ _ _ c.in-Ok.told c.loop.invariant.asked c.in-Ok.ensures.asked c.after-heard.ensures c.lost_after-lost.ensures)
    (search rules) c.if-lost-eq-LOST.true

pub loop-preserved : goal.loop-preserved
loop-preserved g c = record {
  asked = asked_more _ _ _ _ _ _ _ _ c.in-Ok.told c.loop.invariant.asked c.in-Ok.ensures.asked c.after-heard.ensures c.lost_after-lost.ensures;
  few = search rules;
  fewer = search rules;
  tried = tried_more _ _ _ _ _ c.in-Ok.told c.loop.invariant.tried c.loop.invariant.fewer c.after-heard.ensures c.lost_after-lost.ensures;
}
