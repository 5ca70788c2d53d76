use Rattle.std.proofs.Common.{Ok}
use Rattle.dali_grammar.specs.ReplayFault.{fault_of}
use Rattle.dali_replay.proofs.{ReplayLemmas.tells_some, ReplayLemmas.tells_of_replays, StreamLemmas.explains_unread, StreamLemmas.explains_fault}
use Rattle.dali_replay.proofs.streams.replay_through.Goals as goal

pub returns-in-Err-clause-told : goal.returns-in-Err-clause-told
returns-in-Err-clause-told g c =
    explains_unread _ (g.R.Read.remaining c.args.reader.now) _ c.in-Err.fault c.without_reason.result c.without_reason.ensures.fault
    c.without_reason.ensures.reason c.in-Err.ensures.faults

pub returns-in-Ok-replay_and_pass_on-clause-told : goal.returns-in-Ok-replay_and_pass_on-clause-told
returns-in-Ok-replay_and_pass_on-clause-told g c =
    tells_some (g.R.Read.remaining c.args.reader.now) c.in-Ok.input.items _ c.in-Ok.ensures.whole
    (tells_of_replays _ _ _ _ (Ok tt) (rw c.deref.ensures.value at c.in-Ok-replay_and_pass_on.ensures.told))

pub returns-clause-told : goal.returns-clause-told
returns-clause-told g c =
    tells_some (g.R.Read.remaining c.args.reader.now) c.in-Ok.input.items _ c.in-Ok.ensures.whole
    (explains_fault _ c.in-Ok.input.items _ _ (fault_of c.in-Err-replay_and_pass_on.stop) c.of.result
    (rw c.deref.ensures.value at c.in-Err-replay_and_pass_on.ensures.told) c.of.ensures.fault
    c.of.ensures.given)
