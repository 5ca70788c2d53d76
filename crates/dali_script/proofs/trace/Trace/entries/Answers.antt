use Rattle.dali_script.proofs.Senders.{sent_short}
use Rattle.dali_script.proofs.trace.Trace.entries.Goals as goal

pub returns-clause-short : goal.returns-clause-short
returns-clause-short c = rw (← c.self.view_is) (sent_short c.self.inside.entries.items c.self.invariant.sent)
