use Rattle.std.proofs.Common.{add-one}
use Rattle.dali_replay.proofs.TextLemmas.{line_more}
use Rattle.dali_replay.proofs.site_report.push_table_lines.Goals as goal

pub loop-c-preserved : goal.loop-c-preserved
loop-c-preserved c =
    rw (add-one, ← c.enrolled.ensures) (line_more _ _ _ _ _ c.in_ok-push_table.ensures c.loop-c.invariant)
