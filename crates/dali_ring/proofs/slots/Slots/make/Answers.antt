use Rattle.std.proofs.Common.{◌≡◌, arith, ◌∙◌, length}
use Rattle.dali_ring.proofs.Puts.{as_long, one_more}
use Rattle.dali_ring.proofs.slots.Slots.make.Goals as goal

pub put-requires-clause-place : goal.put-requires-clause-place
put-requires-clause-place g c =
    let (from, count, items) = c.loop-number.invariant in
    let long : length c.loop-number.places.items ≡ c.loop-number.number = as_long _ _ _ items in
    (omega (arith, count, c.loop-number-test.true), omega (arith, long))

pub loop-number-preserved : goal.loop-number-preserved
loop-number-preserved g c =
    let (from, count, items) = c.loop-number.invariant in
    (c.put.ensures.block.0 ∙ from, c.put.ensures.block.1 ∙ count, c.put.ensures.items ∙ one_more _ _ _ items)

pub invariant_of-result : goal.invariant_of-result
invariant_of-result g c =
    let (from, count, items) = c.loop-number.invariant in
    let (_, _, _, start, number, handle) = c.in_ok-origin.ensures in
    let long : length c.loop-number.places.items ≡ c.loop-number.number = as_long _ _ _ items in
    (from, count, omega (arith, long, c.loop-number.auto.number-end, c.loop-number-test.false), start, number, handle)
