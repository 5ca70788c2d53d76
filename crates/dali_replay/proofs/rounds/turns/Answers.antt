use Rattle.std.proofs.Common.{◌≡◌, ◌<◌, length, ◌∙◌, arith}
use Rattle.dali_replay.proofs.RoundLemmas.{so_far_none, so_far_more, so_far_refused, so_far_all}
use Rattle.dali_replay.proofs.rounds.turns.Goals as goal

pub take_turn-requires : goal.take_turn-requires
take_turn-requires c =
    rw (c.loop-c.invariant.plan, ← c.controllers-c-end.ensures.value) c.loop-c-test.true

pub returns-in_default : goal.returns-in_default
returns-in_default c =
    let known : c.loop-c.c < length c.args.installation.now.site.plan.blocks = rw (← c.controllers-c-end.ensures.value) c.loop-c-test.true in
    so_far_refused c.args.installation.now c.loop-c.installation c.take_turn.new.installation c.loop-c.c c.loop-c.acted c.in_ok-went.field-0 _ _ _
    c.loop-c.invariant known c.in_default.is c.in_ok-went.ensures

pub loop-c-init : goal.loop-c-init
loop-c-init c = so_far_none _ _

pub loop-c-preserved : goal.loop-c-preserved
loop-c-preserved c =
    so_far_more c.args.installation.now c.loop-c.installation c.take_turn.new.installation c.loop-c.c c.loop-c.acted c.in-Some.went c.in_ok-went.field-0 _ _ _
    c.loop-c.invariant c.in-Some.is c.in_ok-went.ensures

pub returns : goal.returns
returns c =
    let low = c.loop-c.auto.c-end in
    let high = c.loop-c-test.false in
    let end : c.loop-c.c ≡ c.controllers-c-end.result = omega arith in
    so_far_all c.args.installation.now c.loop-c.installation c.loop-c.c c.loop-c.acted _ _ c.loop-c.invariant (end ∙ c.controllers-c-end.ensures.value)
