use Rattle.dali_script.proofs.Found.{trace_more}
use Rattle.dali_script.proofs.trace.Trace.after.Goals as goal

pub returns : goal.returns
returns c =
    let lawful = rw (← c.self.view_is) at c.requires.lawful in
    let more = trace_more c.self.inside.stage c.self.inside.entries.items c.args.frame c.args.heard lawful c.self.invariant in
    rw (← c.self.view_is, c.advance.ensures, c.requires.read) (record { stage = more.stage; finding = more.finding })
