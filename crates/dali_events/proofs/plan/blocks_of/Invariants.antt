use Rattle.std.{proofs.Common.{◌≡◌, take, drop, map, false}, specs.List.list_any}
use Rattle.dali_events.specs.Plan.{block_of, is_misordered}
use Rattle.dali_events.proofs.plan.blocks_of.Given as goal

abbrev pub invariant-loop-first : goal.invariant-loop-first
invariant-loop-first l = record {
  made : l.made.items ≡ map block_of (take l.first-index l.blocks);
  ordered : list_any is_misordered (drop l.first-index l.blocks) ≡ false;
}
