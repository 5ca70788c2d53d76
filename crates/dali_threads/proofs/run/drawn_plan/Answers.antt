use Rattle.std.proofs.Common.{◌≡◌, Some, None, ◌∙◌}
use Rattle.dali_events.specs.Plan.{refusal_of}
use Rattle.dali_threads.proofs.Numbers.{refused_without}
use Rattle.dali_threads.proofs.run.drawn_plan.Goals as goal

pub unreachable-requires : goal.unreachable-requires
unreachable-requires c =
    let refused : refusal_of c.args.setup.now.gear c.as_slice-blocks.result.now c.as_slice.result.now ≡ Some c.in-Err-BadPlan.field-0-0 =
    c.in-Err-BadPlan.ensures.cause c.in-Err-BadPlan.field-0-0 c.in-Err-BadPlan.field-0-is in
    let allowed : refusal_of c.args.setup.now.gear c.as_slice-blocks.result.now c.as_slice.result.now ≡ None =
    rw (c.as_slice.ensures.keys, c.as_slice-blocks.ensures.value)
    (refused_without c.args.setup.now.gear c.args.setup.now.blocks.items _ c.in_ok-numbers.numbers.keys c.in_ok-numbers.ensures.drawn
    c.in_ok-numbers.ensures.once ∙ c.requires) in
    cc
