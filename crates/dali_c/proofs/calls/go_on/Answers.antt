use Rattle.std.proofs.Common.{◌≡◌, Some, refl, sym, subst, ◌∙◌}
use Rattle.dali_controller.specs.{Machine.Machine, States.machine_with}
use Rattle.dali_c.specs.{Calls.Steps, Orders.order_of, Orders.HasNoMore, Orders.IsSentSo, Records.kept_of, declared.machine.PlainMachine.PlainMachine}
use Rattle.dali_c.proofs.calls.go_on.Goals as goal

pub returns-in-Some-step-clause-done : goal.returns-in-Some-step-clause-done
returns-in-Some-step-clause-done c m i holds is due =
    let k = kept_of c.args.machine.now.records in
    let after : PlainMachine = record { state = c.set.new.self; records = c.step.new.records } in
    let last = c.set.new.self.last in
    let after_is = c.in-Some-step.ensures.state in
    let told : c.in-Some.told ≡ i = (let same : Some c.in-Some.told ≡ Some i = sym c.in-Some.is ∙ c.input_of.ensures ∙ is in cc) in
    let steps : Steps (machine_with c.args.state.now k) c.in-Some.told after last = record {
      ordered = c.in-Some-step.field-0;
      spelled = subst (λ n. order_of last ≡ Some n.last) after_is c.set.ensures.spells.last;
      more = subst (λ n. HasNoMore last n.last) after_is c.set.ensures.ordered;
      sent = subst (λ n. IsSentSo last n.trace n.last) after_is c.set.ensures.sent;
      given = c.in-Some-step.ensures.given;
      state = record {
        state = c.step.new.state;
        held = record { spells = c.set.ensures.spells; records = c.step.ensures.kept; whole = c.in-Some-step.ensures.whole };
        is = sym c.in-Some-step.ensures.state;
      };
      fits = c.in-Some-step.ensures.fits;
    } in (
      refl,
      subst (λ j. Steps m j after last) told
          (subst (λ (n : Machine). Steps n c.in-Some.told after last) (sym (c.requires.once m holds)) steps),
    )
