use Rattle.std.proofs.Common.{◌≡◌}
use Rattle.dali_threads.specs.Drawn.{drawn_on}
use Rattle.dali_threads.proofs.draws.draw.Given as goal

abbrev pub invariant-loop-left : goal.invariant-loop-left
invariant-loop-left l = drawn_on l.words l.most l.fn.generator l.fn.numbers.keys ≡ drawn_on l.left l.most l.generator l.numbers.keys

abbrev pub decreases-loop-left : goal.decreases-loop-left
decreases-loop-left l = l.left
