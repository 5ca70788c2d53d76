use Rattle.std.proofs.Common.{add-one}
use Rattle.dali_replay.proofs.TextLemmas.{line_more}
use Rattle.dali_replay.proofs.json.push_json_gear.Goals as goal

pub loop-number-preserved : goal.loop-number-preserved
loop-number-preserved c =
    rw (add-one, ← c.gear-gear.ensures) (line_more _ _ _ _ _ c.in_ok-push_gear.ensures c.loop-number.invariant)
