use Rattle.dali_search.proofs.Led.{IsLed}
use Rattle.dali_search.proofs.left.Left.led_to.Given as goal

abbrev pub invariant-loop : goal.invariant-loop
invariant-loop l = IsLed l.counter l.least l.left.low l.left.high
