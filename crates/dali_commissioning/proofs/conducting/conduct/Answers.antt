use Rattle.std.proofs.Common.{◌∙◌, sym, refl, rules}
use Rattle.dali_commissioning.proofs.Steps.{at_begun, at_further, left_at, left_at_fault, stays_further}
use Rattle.dali_commissioning.proofs.conducting.conduct.Goals as goal
use Rattle.dali_commissioning.proofs.Rules.{rules_kept, rules_left, rules_spent}

pub loop-init : goal.loop-init
loop-init g c = record {
  at = at_begun _ _ _ _ _ _ _ _ _ c.requires.begins c.step-order.ensures.step c.step-order.ensures.ordered;
  block = refl;
  same = c.requires.block ∙ sym c.step-order.ensures.block;
  fits = c.step-order.ensures.fits;
}

pub loop-preserved : goal.loop-preserved
loop-preserved g c = record {
  at = at_further g.K.Keep.is_up g.K.Keep.is_sound g.K.Keep.holds _ _ _ _ _ _ _ _ _ _ _ _ _ _ c.in-Ok.told _ _ _ c.loop.invariant.at
      c.step-order-in-Ok.ensures.step c.step-order-in-Ok.ensures.ordered c.in-Ok.ensures.wrote c.in-Ok.ensures.read
      c.in-Ok.ensures.waiting (search rules) c.in-Ok.ensures.stays c.in-Ok.ensures.adds;
  block = c.in-Ok.ensures.block ∙ c.loop.invariant.block;
  same = c.in-Ok.ensures.block ∙ c.loop.invariant.same ∙ sym c.step-order-in-Ok.ensures.block;
  fits = c.step-order-in-Ok.ensures.fits;
}

pub returns-in-Err-clause-fault : goal.returns-in-Err-clause-fault
returns-in-Err-clause-fault g c = left_at_fault g.K.Keep.is_up g.K.Keep.is_sound g.K.Keep.holds _ _ _ _ _ _ _ _ _ _ _ _ c.loop.invariant.at
    c.in-Err.ensures.stays c.in-Err.ensures.left

pub returns-in-Some-clause-rules : goal.returns-in-Some-clause-rules
returns-in-Some-clause-rules g c = λ idle. rules_kept g.K.Keep.is_up g.K.Keep.is_sound g.K.Keep.holds _ _ _ _ _ _ _ _ _ _ _
    c.requires.start idle c.loop.invariant.at

pub returns-in-Err-clause-left_rules : goal.returns-in-Err-clause-left_rules
returns-in-Err-clause-left_rules g c = λ idle. rules_left g.K.Keep.is_up g.K.Keep.is_sound g.K.Keep.holds _ _ _ _ _ _ _ _ _ _ _ _ _ _
    c.requires.start idle c.loop.invariant.at c.in-Err.ensures.stays c.in-Err.ensures.last c.in-Err.ensures.begun

pub returns-clause-left_rules : goal.returns-clause-left_rules
returns-clause-left_rules g c = λ idle. rules_spent g.K.Keep.is_up g.K.Keep.is_sound g.K.Keep.holds _ _ _ _ _ _ _ _ _ _ _
    c.requires.start idle c.loop.invariant.at

pub returns-in-Err-clause-stays : goal.returns-in-Err-clause-stays
returns-in-Err-clause-stays g c =
    stays_further g.K.Keep.is_up g.K.Keep.is_sound _ _ _ c.loop.invariant.at.stays c.in-Err.ensures.stays

pub returns-in-Some-clause-stays : goal.returns-in-Some-clause-stays
returns-in-Some-clause-stays g c = c.loop.invariant.at.stays

pub returns-clause-fault : goal.returns-clause-fault
returns-clause-fault g c = left_at g.K.Keep.is_up g.K.Keep.is_sound g.K.Keep.holds _ _ _ _ _ _ _ _ _ _ _ c.loop.invariant.at

pub returns-clause-stays : goal.returns-clause-stays
returns-clause-stays g c = c.loop.invariant.at.stays
