use Rattle.std.proofs.Common.{◌≡◌, false, take}
use Rattle.dali_events.specs.Plan.{any_pair, overlap}
use Rattle.dali_grammar.proofs.reason.clue.overlapping.Given as goal

abbrev pub invariant-loop-index : goal.invariant-loop-index
invariant-loop-index l = any_pair overlap (take l.index l.blocks) ≡ false
