use Rattle.std.proofs.Common.{refl}
use Rattle.dali_standing.proofs.Done.{act_accepts, act_done, act_answers, act_whole, was_placed}
use Rattle.dali_standing.proofs.standing.Standing.act.Goals as goal

pub request-requires : goal.request-requires
request-requires c =
    act_accepts _ _ c.args.c c.args.input c.act-order.result _ _ c.self.view_is c.self.invariant c.requires.up c.requires.due c.requires.room
    c.index_mut-seat.ensures.value c.act-order.ensures.tied c.act-order.ensures.answer c.give_up.ensures

pub invariant_of-self : goal.invariant_of-self
invariant_of-self c =
    (act_done _ _ c.args.c c.args.input c.act-order.result _ _ _ _ c.self.view_is c.self.invariant refl c.requires.up c.requires.due
    c.index_mut-seat.ensures.value c.act-order.ensures.tied c.act-order.ensures.answer c.act-order.ensures.state c.give_up.ensures c.request.ensures).settled

pub returns-clause-answer : goal.returns-clause-answer
returns-clause-answer c =
    act_answers _ _ c.args.c c.args.input c.act-order.result _ c.self.view_is c.requires.up c.index_mut-seat.ensures.value c.act-order.ensures.answer

pub returns-clause-whole : goal.returns-clause-whole
returns-clause-whole c =
    act_whole _ _ c.args.c c.args.input c.act-order.result _ c.self.view_is c.requires.up c.index_mut-seat.ensures.value c.act-order.ensures.whole

pub returns-clause-moves : goal.returns-clause-moves
returns-clause-moves c =
    (act_done _ _ c.args.c c.args.input c.act-order.result _ _ _ _ c.self.view_is c.self.invariant refl c.requires.up c.requires.due
    c.index_mut-seat.ensures.value c.act-order.ensures.tied c.act-order.ensures.answer c.act-order.ensures.state c.give_up.ensures c.request.ensures).moves

pub returns-clause-placed : goal.returns-clause-placed
returns-clause-placed c =
    was_placed _ _ c.args.c _ c.self.view_is c.self.invariant c.requires.up c.index_mut-seat.ensures.value c.act-order.ensures.tied
