use Rattle.std.proofs.Common.{add-one}
use Rattle.dali_replay.proofs.TextLemmas.{line_more}
use Rattle.dali_story.proofs.stances.push_stances.Goals as goal

pub loop-c-preserved : goal.loop-c-preserved
loop-c-preserved c =
    rw (add-one, ← c.stance_of.ensures) (line_more _ _ _ _ _ c.in_ok-push_item.ensures c.loop-c.invariant)
