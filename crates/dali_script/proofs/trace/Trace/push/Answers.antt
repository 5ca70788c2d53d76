use Rattle.std.proofs.Common.{◌<◌, length, arith}
use Rattle.dali_script.proofs.{Found.trace_more, Transactions.room}
use Rattle.dali_script.proofs.trace.Trace.push.Goals as goal

pub push-requires : goal.push-requires
push-requires c =
    let lawful = rw (← c.self.view_is) at c.requires.lawful in
    let short : length c.self.inside.entries.items < 8 = room lawful.0 lawful.1 c.self.inside.entries.items c.args.frame lawful.2 in
    omega arith

pub invariant_of-self : goal.invariant_of-self
invariant_of-self c =
    let lawful = rw (← c.self.view_is) at c.requires.lawful in
    let reached = rw (← c.self.view_is) at c.requires.reached in
    let more = trace_more c.self.inside.stage c.self.inside.entries.items c.args.frame c.args.heard lawful c.self.invariant in
    rw (c.push.ensures.items, reached.stage, ← more.stage) more
