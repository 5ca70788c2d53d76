use Rattle.std.proofs.Common.{◌≡◌, ℕ, Bool, true, false, ◌∙◌, sym, refl, ap, Option, Some, None, ◌||◌, not, is_some}
use Rattle.dali_frame.specs.{Random.value_of, declared.numbers.SearchAddress.SearchAddress}
use Rattle.dali_script.specs.{Records.IsKept, Records.Has, Records.HasRandom, Stages.may_give_some, declared.orders.End.End, declared.stage.Stage.Stage}
use Rattle.dali_script.{specs.declared.stage.Stage.TheVariants.Unnamed, proofs.Giving.goes_on_by}
use Rattle.dali_controller.specs.{Course.closing_of, Machine.Machine, Machine.is_complete, Machine.is_passed_by, Machine.is_withheld, States.machine_with}
use Rattle.dali_controller.proofs.Courses.{address_is}
use Rattle.dali_controller.proofs.state.State.is_over.Goals as goal

-- What is reserved for a number decides both.
over_some : (w : Machine) (r : SearchAddress) (a : ℕ) → IsKept w.kept → Has w.kept.reserved (a, value_of r)
    → is_withheld w a (value_of r) ≡ (is_complete w.kept None (Unnamed r) || is_passed_by w (Unnamed r))
over_some w r a kept has =
    let may : true ≡ may_give_some w.kept.block w.kept.reserved (value_of r) =
    goes_on_by w.kept.block w.kept.reserved (value_of r) (Some a) kept.reserved kept.reserved_drawn kept.within has in
    let reserved = address_is w.kept.reserved (value_of r) (Some a) kept.reserved.random_once has in
    rw (← may, ← reserved) refl

over_none : (w : Machine) (r : SearchAddress) → IsKept w.kept → (HasRandom w.kept.reserved (value_of r) → ⊥)
    → true ≡ (is_complete w.kept None (Unnamed r) || is_passed_by w (Unnamed r))
over_none w r kept none =
    let may : false ≡ may_give_some w.kept.block w.kept.reserved (value_of r) =
    goes_on_by w.kept.block w.kept.reserved (value_of r) None kept.reserved kept.reserved_drawn kept.within none in
    rw (← may) refl

at_unnamed : (w : Machine) (closing : Option End) (s : Stage) (r : SearchAddress) (b : Bool) → s ≡ Unnamed r → closing ≡ None
    → b ≡ (is_complete w.kept None (Unnamed r) || is_passed_by w (Unnamed r)) → b ≡ (is_complete w.kept closing s || is_passed_by w s)
at_unnamed w closing s r b is none same = rw (is, none) same

none_by : (o : Option End) (b : Bool) → is_some o ≡ not b → b ≡ true → o ≡ None
none_by None b is so = refl
none_by (Some end) b is so = absurd (let no : true ≡ false = is ∙ ap not so in cc)

pub returns-in-Some : goal.returns-in-Some
returns-in-Some c =
    let w = machine_with c.args.self.now c.args.kept.now in
    let closing : closing_of c.args.self.now.purpose ≡ None = sym c.end.ensures ∙ none_by c.end.result c.is_none.result c.is_none.ensures c.if-is_none.true in
    at_unnamed w _ _ c.in-Unnamed.number _ (sym c.stage.ensures ∙ c.in-Unnamed.is) closing
    (c.is_withheld.ensures ∙ ap (λ n. is_withheld w c.in-Some.address n) c.value-in-Some.ensures
    ∙ over_some w c.in-Unnamed.number c.in-Some.address c.in-Some.ensures.kept (rw c.value.ensures at c.in-Some.ensures.value))

pub returns-in-None : goal.returns-in-None
returns-in-None c =
    let w = machine_with c.args.self.now c.args.kept.now in
    let closing : closing_of c.args.self.now.purpose ≡ None = sym c.end.ensures ∙ none_by c.end.result c.is_none.result c.is_none.ensures c.if-is_none.true in
    at_unnamed w _ _ c.in-Unnamed.number _ (sym c.stage.ensures ∙ c.in-Unnamed.is) closing
    (over_none w c.in-Unnamed.number c.in-None.ensures.kept (rw c.value.ensures at c.in-None.ensures.value))
