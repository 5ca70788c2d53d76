use Rattle.std.proofs.Common.{◌≡◌, refl, sym, ap, subst, ◌∙◌, List, [], ◌∷◌, ◌++◌, Option, Some, None}
use Rattle.dali_script.specs.declared.orders.Order.{Order, TheVariants.Put, TheVariants.Commit}
use Rattle.dali_statement.specs.Own.{Own, Act, own_after, own_all, AreOwn}
use Rattle.dali_controller.specs.{Machine.Machine, Machine.machine_told, Orders.machine_after, Acts.acts_told, Acts.acts_ordered, Acts.own_of}
use Rattle.dali_controller.proofs.Acts.{Pends, Stands, told_step, ordered, may_order, own_both, stands_first}
use Rattle.dali_commissioning.specs.{Acts.acts_by, Acts.outstanding, Steps.Step, Steps.AreSteps, Steps.last_order}
use Rattle.dali_commissioning.proofs.Acts.{keeps_to_scripts, by_more}

-- WHAT IS OUTSTANDING MAY BE DONE: the last order of a machine that is left before its end.

pub own_joined : (v : Own) (now more : List Act) → own_all v (now ++ more) ≡ own_all (own_all v now) more
own_joined v [] more = refl
own_joined v (a ∷ now) more = own_joined (own_after v a) now more

pends_own : (last : Option Order) (v : Own) → Pends last v → AreOwn v (outstanding last)
pends_own (Some (Put p f)) v pends = (pends, tt)
pends_own (Some (Commit x)) v pends = (pends, tt)
pends_own _ v pends = tt

-- after its steps a machine stands as its acts say
steps_stand : (m n : Machine) (v : Own) (steps : List Step) → m.last ≡ None → Stands m v → AreSteps m steps n
    → Stands n (own_all v (acts_by steps)) × (n.last ≡ last_order steps)
steps_stand m n v [] unstarted stands are = (subst (λ k. Stands k v) (sym are) stands, ap (λ k. k.last) are ∙ unstarted)
steps_stand m n v (s ∷ before) unstarted stands (mid, are, (accepted, answered, is)) =
    let first = steps_stand m mid v before unstarted stands are in
    let now = own_all v (acts_by before) in
    let told = told_step mid now first.0 s.told accepted in
    let next = ordered (machine_told mid s.told) (own_all now (acts_told mid.last s.told)) told.1 s.order (may_order mid s.told s.order answered) in
    let joined : own_all v (acts_by (s ∷ before)) ≡ own_all (own_all now (acts_told mid.last s.told)) (acts_ordered s.order) =
    ap (own_all v) (by_more s before) ∙ own_joined v (acts_by before) (acts_told (last_order before) s.told ++ acts_ordered s.order)
    ∙ own_joined now (acts_told (last_order before) s.told) (acts_ordered s.order)
    ∙ ap (λ last. own_all (own_all now (acts_told last s.told)) (acts_ordered s.order)) (sym first.1) in (
      subst (λ k. Stands k (own_all v (acts_by (s ∷ before)))) (sym is) (subst (Stands (machine_after mid s.told s.order)) (sym joined) next.1),
      ap (λ k. k.last) is,
    )

pub outstanding_own : (m n : Machine) (steps : List Step) → m.last ≡ None → m.trace ≡ [] → AreSteps m steps n
    → AreOwn (own_of m) (acts_by steps ++ outstanding (last_order steps))
outstanding_own m n steps unstarted idle are =
    let last = steps_stand m n (own_of m) steps unstarted (stands_first m unstarted idle) are in
    own_both (own_of m) (acts_by steps) (outstanding (last_order steps)) (keeps_to_scripts m n steps unstarted idle are)
    (pends_own (last_order steps) (own_all (own_of m) (acts_by steps)) (subst (λ o. Pends o (own_all (own_of m) (acts_by steps))) last.1 last.0.pends))
