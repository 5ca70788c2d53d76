use Rattle.std.proofs.Common.{◌≡◌, Err, rules}
use Rattle.dali_grammar.specs.ReplayFault.{with_fault}
use Rattle.dali_replay.proofs.ReplayLemmas.{tells_of_replays, tells_some, tells_unread, never_read}
use Rattle.dali_replay.proofs.replay.run_replay.Goals as goal

pub returns-in_err-input-clause-told : goal.returns-in_err-input-clause-told
returns-in_err-input-clause-told g c =
    let is : c.from_residual.result ≡ Err c.in_err-input.field-0.0 = search rules in
    tells_unread _ _ _ c.in_err-input.field-0.0 _ is c.in_err-input.ensures.faults

pub returns-clause-some : goal.returns-clause-some
returns-clause-some g c =
    rw c.fault_alone.ensures
    (c.in_ok-input.input.items, tells_of_replays _ _ _ _ (with_fault c.replay.result) (rw c.deref.ensures.value at c.replay.ensures))

pub returns-clause-unread : goal.returns-clause-unread
returns-clause-unread g c is = absurd (never_read _ _ _ _ (with_fault c.replay.result) c.replay.ensures (rw c.fault_alone.ensures at is))

pub returns-clause-told : goal.returns-clause-told
returns-clause-told g c =
    rw c.fault_alone.ensures (tells_some (g.R.Read.remaining c.args.reader.now) c.in_ok-input.input.items _ c.in_ok-input.ensures.whole
    (tells_of_replays _ _ _ _ (with_fault c.replay.result) (rw c.deref.ensures.value at c.replay.ensures)))
