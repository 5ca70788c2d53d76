use Rattle.std.proofs.Common.{◌≡◌, None, sym}
use Rattle.dali_events.{specs.Plan.refusal_of, proofs.Plans.accepted, proofs.Plans.plan_is, proofs.Plans.gear_is, proofs.Plans.blocks_are}
use Rattle.dali_events.proofs.plan.Plan.new.Goals as goal

pub invariant_of-result : goal.invariant_of-result
invariant_of-result c =
    let is : refusal_of c.args.gear c.args.blocks.now c.args.draws.now ≡ None = sym c.in_default.ensures in
    let all = accepted c.args.gear c.args.blocks.now c.args.draws.now is in
    let gear = gear_is c.args.gear all.gear_count in
    let blocks = blocks_are c.args.blocks.now all.controllers in
    rw (c.in_ok-blocks.ensures, c.in_ok-draws.ensures, c.new.ensures.items)
    (plan_is c.args.gear c.args.blocks.now c.args.draws.now is, gear.0, gear.1, blocks.0, blocks.1, c.requires)
