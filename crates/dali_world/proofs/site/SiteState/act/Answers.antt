use Rattle.std.proofs.Common.{rules, ◌≡◌, refl, sym, ap, subst, ◌∙◌}
use Rattle.dali_script.specs.declared.orders.Order.TheVariants.{Halt}
use Rattle.dali_script.specs.declared.orders.Fault.TheVariants as fault
use Rattle.dali_events.specs.Allowed.{IsDue}
use Rattle.dali_events.specs.declared.event.Event.TheVariants as event
use Rattle.dali_standing.specs.{Seats.MayAnswer, Standing.controller_on, Standing.machine_in}
use Rattle.dali_world.{specs.Site.Receipt, proofs.Fitting.fits_acted}
use Rattle.dali_world.proofs.Logs.{step_few, step_goes_on, act_leaves, act_site, never_conflicts, own_records, act_waits, act_known, act_found}
use Rattle.dali_world.proofs.site.SiteState.act.Goals as goal

pub count-number-requires-clause-few : goal.count-number-requires-clause-few
count-number-requires-clause-few c =
    step_few _ _ _ _ _ c.args.c c.self.view_is c.self.invariant c.in_ok-check_room.ensures.ok c.in_ok-check_up.ensures.ok.2

pub invariant_of-self : goal.invariant_of-self
invariant_of-self c =
    let act = c.act-order.ensures in
    let due : IsDue (controller_on c.self.inside.standing c.args.c) c.args.input = search rules in
    let leaves = act_leaves _ _ (machine_in c.self.inside.standing.machines c.args.c) _ c.args.c c.args.input c.act-order.result
    c.self.view_is c.used.ensures.value act.answer (c.if-would_reserve_used.ensures.no refl) in
    step_goes_on _ _ _ _ _ _ _ _ _ (event.Acted c.args.c c.args.input c.act-order.result) c.args.c c.self.view_is c.self.invariant
    c.in_ok-check_room.ensures.ok act.moves leaves
    (act_known _ _ _ _ c.args.c c.args.input c.act-order.result c.self.invariant due act.placed act.answer act.whole)
    c.append.ensures.items c.append.ensures.capacity c.in_ok-check_up.ensures.ok.2 c.count-number.ensures.shares refl

pub returns-clause-answer : goal.returns-clause-answer
unfolding Rattle.dali_world.specs.Site.Acts
returns-clause-answer c =
    let act = c.act-order.ensures in
    let leaves = act_leaves _ _ (machine_in c.self.inside.standing.machines c.args.c) _ c.args.c c.args.input c.act-order.result
    c.self.view_is c.used.ensures.value act.answer (c.if-would_reserve_used.ensures.no refl) in (
      act_site _ _ _ _ _ c.count-number.new.shares _ c.count-number.result c.args.c c.args.input c.act-order.result c.new.result _
          c.self.view_is c.self.invariant (c.if-is_crowded.ensures.room refl)
          c.in_ok-check_room.ensures.ok act.moves act.answer leaves act.whole c.append.ensures.items c.in_ok-check_up.ensures.ok.2
          c.count-number.ensures.number c.new.ensures,
      tt,
      tt,
    )

pub returns-clause-agreed : goal.returns-clause-agreed
returns-clause-agreed c halts =
    let act = c.act-order.ensures in
    let due : IsDue (controller_on c.self.inside.standing c.args.c) c.args.input = search rules in
    let order : c.act-order.result ≡ Halt fault.Conflict = sym (ap (λ (r : Receipt). r.order) c.new.ensures) ∙ halts in
    never_conflicts _ _ _ _ _ c.args.c c.args.input c.self.view_is c.self.invariant c.in_ok-check_up.ensures.ok.1 due act.placed
    (subst (λ o. MayAnswer (machine_in c.self.inside.standing.machines c.args.c) c.args.input o) order act.answer)

pub returns-clause-fits : goal.returns-clause-fits
unfolding Rattle.dali_world.specs.Site.Acts
returns-clause-fits c = fits_acted _ _ _ _ _ (rw (← c.self.view_is) c.self.invariant.run) (returns-clause-answer c).0

pub returns-clause-records : goal.returns-clause-records
returns-clause-records c = own_records _ _ _ _ _ c.args.c c.self.view_is c.self.invariant c.act-order.ensures.placed

pub returns-clause-waits : goal.returns-clause-waits
returns-clause-waits c =
    let act = c.act-order.ensures in
    let due : IsDue (controller_on c.self.inside.standing c.args.c) c.args.input = search rules in
    act_waits _ _ _ _ _ c.args.c c.args.input c.act-order.result c.self.view_is c.self.invariant due act.placed act.answer

pub returns-clause-found : goal.returns-clause-found
returns-clause-found c =
    let act = c.act-order.ensures in
    λ m there surveys is.
    act_found _ _ _ _ _ c.args.c c.args.input c.act-order.result c.self.view_is c.self.invariant act.answer m there surveys
    (sym (ap (λ (r : Receipt). r.order) c.new.ensures) ∙ is)
