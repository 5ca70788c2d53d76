use Rattle.dali_grammar.specs.ReplayFault.{with_fault}
use Rattle.dali_replay.proofs.PassedLemmas.{replays_kept}
use Rattle.dali_replay.proofs.streams.replay_and_pass_on.Goals as goal

pub returns-in-Ok-clause-told : goal.returns-in-Ok-clause-told
returns-in-Ok-clause-told g c = replays_kept _ _ _ _ c.flush.ensures.bytes _ (with_fault c.replay-played.result) c.replay-played.ensures
