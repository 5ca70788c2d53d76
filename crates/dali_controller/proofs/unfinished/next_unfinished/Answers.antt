use Rattle.std.proofs.Common.{◌<◌, ◌∙◌, sym, arith}
use Rattle.dali_controller.proofs.Courses.{one_more}
use Rattle.dali_controller.proofs.unfinished.next_unfinished.Goals as goal

pub loop-address-preserved : goal.loop-address-preserved
loop-address-preserved c =
    let small : c.loop-address.address < 64 = omega arith in
    c.loop-address.invariant ∙ one_more c.args.kept.now c.loop-address.address small ∙ rw (← c.in_default.ensures.unfinished)

pub returns-in-Some-clause-next : goal.returns-in-Some-clause-next
returns-in-Some-clause-next c =
    let k = c.args.kept.now in
    let small : c.loop-address.address < 64 = omega arith in
    sym (c.loop-address.invariant ∙ one_more k c.loop-address.address small ∙ rw (← c.in-Some.ensures.unfinished))
