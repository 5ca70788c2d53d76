use Rattle.std.proofs.Common.{rules, ◌≡◌, ◌∙◌, ap, arith, length, List}
use Rattle.dali_gear.specs.Gear.{Gear}
use Rattle.dali_events.{specs.declared.used.Used.Used, proofs.Invariant.Starting.start_count}
use Rattle.dali_standing.proofs.Rows.{drawn_below}
use Rattle.dali_standing.proofs.fitted.FittedGear.new.Goals as goal

pub invariant_of-result : goal.invariant_of-result
invariant_of-result c = (
  search rules,
  search rules,
  λ k d here. drawn_below c.args.plan.now c.in_ok-draws.draws.items c.draws.ensures.plan (c.in_ok-draws.ensures.items ∙ c.draws.ensures.value) k d here,
  search rules,
)

pub note_used-requires-clause-room : goal.note_used-requires-clause-room
note_used-requires-clause-room c =
    let gear : length c.row-gear.result ≡ c.args.plan.now.gear = ap (λ (gs : List Gear). length gs) c.row-gear.ensures ∙ start_count c.args.plan.now in
    let used : length c.used.result.now ≡ length c.args.plan.now.used = ap (λ (us : List Used). length us) c.used.ensures.value in
    omega (arith, gear, used, c.used.ensures.few, c.in_ok-gifts.ensures.exact, c.len.ensures.value)
