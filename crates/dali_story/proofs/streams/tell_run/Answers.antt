use Rattle.dali_replay.proofs.ReplayLemmas.{tells_some}
use Rattle.dali_story.proofs.TellLemmas.{tells_unread}
use Rattle.dali_story.proofs.streams.tell_run.Goals as goal

pub returns-in-Err : goal.returns-in-Err
returns-in-Err g c =
    tells_unread (g.R.Read.remaining c.args.reader.now) _ c.in-Err.fault c.without_reason.result c.without_reason.ensures.fault
    c.without_reason.ensures.reason c.in-Err.ensures.faults

pub returns-in-Ok-tell : goal.returns-in-Ok-tell
returns-in-Ok-tell g c =
    tells_some (g.R.Read.remaining c.args.reader.now) c.in-Ok.input.items _ c.in-Ok.ensures.whole
    (rw c.deref.ensures.value at c.in-Ok-tell.ensures.told)
