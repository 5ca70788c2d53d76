use Rattle.std.proofs.Common.{add-one}
use Rattle.dali_replay.proofs.TextLemmas.{line_more}
use Rattle.dali_replay.proofs.json.push_tables.Goals as goal

pub loop-c-preserved : goal.loop-c-preserved
loop-c-preserved c =
    rw (add-one, ← c.enrolled.ensures) (line_more _ _ _ _ _ c.in_ok-push_table_at.ensures c.loop-c.invariant)
