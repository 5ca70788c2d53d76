use Rattle.std.proofs.Common.{◌≡◌, drop}
use Rattle.std.specs.List.{list_any}
use Rattle.dali_events.specs.Plan.{is_misordered}
use Rattle.dali_grammar.proofs.reason.clue.misordered.Given as goal

abbrev pub invariant-loop-index : goal.invariant-loop-index
invariant-loop-index l = list_any is_misordered (drop l.index l.blocks) ≡ list_any is_misordered l.blocks
