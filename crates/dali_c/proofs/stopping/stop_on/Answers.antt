use Rattle.std.proofs.Common.{◌≡◌, Some, refl, sym, ap, subst, ◌∙◌}
use Rattle.dali_controller.specs.{Machine.Machine, States.machine_with, Whole.IsWhole}
use Rattle.dali_c.specs.{Orders.order_of, Orders.HasNoMore, Orders.IsSentSo, Records.kept_of, Stops.Stops, Stops.ended}
use Rattle.dali_c.specs.{declared.machine.PlainMachine.PlainMachine}
use Rattle.dali_c.proofs.Stops.{told_id}
use Rattle.dali_c.proofs.stopping.stop_on.Goals as goal

pub set-requires : goal.set-requires
set-requires c =
    c.end.ensures.id ∙ ap (λ (n : Machine). n.id) c.in-Some-step.ensures.state
    ∙ told_id (machine_with c.args.state.now (kept_of c.args.machine.now.records)) c.in-Some.told ∙ c.requires.held.spells.id

pub returns-in-Some-step-clause-done : goal.returns-in-Some-step-clause-done
returns-in-Some-step-clause-done c m i holds is due =
    let k = kept_of c.args.machine.now.records in
    let records = c.step.new.records in
    let after : PlainMachine = record { state = c.set.new.self; records = records } in
    let last = c.set.new.self.last in
    let told : c.in-Some.told ≡ i = (let same : Some c.in-Some.told ≡ Some i = sym c.in-Some.is ∙ c.input_of.ensures ∙ is in cc) in
    let ends : machine_with c.end.new.state (kept_of records) ≡ ended (machine_with c.step.new.state (kept_of records)) =
    subst (λ r. machine_with c.end.new.state r ≡ ended (machine_with c.step.new.state r)) c.known.ensures c.end.ensures.state in
    let after_is = ends ∙ ap ended c.in-Some-step.ensures.state in
    let stops : Stops (machine_with c.args.state.now k) c.in-Some.told after last = record {
      stepped = c.in-Some-step.field-0;
      given = c.in-Some-step.ensures.given;
      fits = c.in-Some-step.ensures.fits;
      spelled = subst (λ (n : Machine). order_of last ≡ Some n.last) after_is c.set.ensures.spells.last;
      more = subst (λ (n : Machine). HasNoMore last n.last) after_is c.set.ensures.ordered;
      sent = subst (λ (n : Machine). IsSentSo last n.trace n.last) after_is c.set.ensures.sent;
      state = record {
        state = c.end.new.state;
        held = record {
          spells = c.set.ensures.spells;
          records = c.step.ensures.kept;
          whole = subst (λ r. IsWhole (machine_with c.end.new.state r)) c.known.ensures c.end.ensures.whole;
        };
        is = sym after_is;
      };
    } in (
      refl,
      subst (λ j. Stops m j after last) told
          (subst (λ (n : Machine). Stops n c.in-Some.told after last) (sym (c.requires.once m holds)) stops),
    )
