use Rattle.std.proofs.Common.{ap, nat_le}
use Rattle.dali_search.proofs.Led.{led_none, led_more}
use Rattle.dali_search.proofs.left.Left.led_to.Goals as goal

pub loop-init : goal.loop-init
loop-init c = led_none c.value-least.result

pub loop-preserved : goal.loop-preserved
loop-preserved c =
    led_more c.loop.counter c.value-least.result c.loop.left.low c.loop.left.high c.probe-asked.result _ _ (nat_le c.value-least.result c.value.result)
    (rw c.value-least.ensures.value c.value-least.ensures.range)
    c.loop.invariant c.probe-asked.ensures (ap (λ a. nat_le c.value-least.result a) c.value.ensures.value)
    c.narrowed-left.ensures.low c.narrowed-left.ensures.high
