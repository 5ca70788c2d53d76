use Rattle.std.proofs.Common.{◌≡◌, None, sym, subst}
use Rattle.dali_events.{specs.Plan.Plan, specs.Plan.IsPlan, specs.Plan.used_refusal_of, specs.Plan.plan_with, proofs.Plans.with_is}
use Rattle.dali_events.proofs.plan.Plan.with_used.Goals as goal

pub invariant_of-result : goal.invariant_of-result
invariant_of-result c =
    let is : used_refusal_of c.args.self c.args.used.now ≡ None = sym c.in_default.ensures in
    let plan : IsPlan c.args.self = subst IsPlan c.self.view_is c.self.invariant.0 in
    let made : IsPlan (plan_with c.args.self c.args.used.now) = with_is c.args.self plan c.args.used.now is c.all_short.ensures in
    let here = subst (λ (p : Plan). IsPlan (plan_with p c.args.used.now)) (sym c.self.view_is) made in
    rw c.in_ok-used.ensures.items (here, c.self.invariant.1, c.self.invariant.2, c.self.invariant.3, c.self.invariant.4, c.self.invariant.5)
