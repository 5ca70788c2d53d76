use Rattle.std.proofs.Common.{◌≡◌, false, take, ◌==◌}
use Rattle.dali_events.specs.Plan.{any_pair}
use Rattle.dali_grammar.proofs.reason.clue.drawn_twice.Given as goal

abbrev pub invariant-loop-index : goal.invariant-loop-index
invariant-loop-index l = any_pair (λ draw other. draw == other) (take l.index l.draws) ≡ false
