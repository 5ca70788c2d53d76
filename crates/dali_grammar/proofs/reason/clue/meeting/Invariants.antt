use Rattle.std.proofs.Common.{◌≡◌, drop}
use Rattle.std.specs.List.{list_any}
use Rattle.dali_events.specs.Plan.{overlap}
use Rattle.dali_grammar.proofs.reason.clue.meeting.Given as goal

abbrev pub invariant-loop-index : goal.invariant-loop-index
invariant-loop-index l = list_any (λ other. overlap other l.block) (drop l.index l.blocks) ≡ list_any (λ other. overlap other l.block) l.blocks
