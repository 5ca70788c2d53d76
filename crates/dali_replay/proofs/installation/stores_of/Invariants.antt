use Rattle.std.proofs.Common.{◌≡◌, ◌++◌, map, drop}
use Rattle.dali_replay.specs.Installation.{empty_store}
use Rattle.dali_replay.proofs.installation.stores_of.Given as goal

abbrev pub invariant-loop-block : goal.invariant-loop-block
invariant-loop-block l = l.stores.items ++ map empty_store (drop l.block-index l.blocks) ≡ map empty_store l.blocks
