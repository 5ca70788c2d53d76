use Rattle.std.proofs.Common.{◌≡◌, sym, subst, ◌∙◌}
use Rattle.dali_script.specs.Stages.{stage_of}
use Rattle.dali_controller.specs.{Machine.Machine, Moments.IsHeard, States.machine_with, declared.state.State.State}
use Rattle.dali_controller.proofs.{Legs.hears_told, Legs.told_is, Steps.hear_heard, Steps.heard_by, Steps.sending, Steps.sending_lawful}
use Rattle.dali_controller.proofs.state.State.hear.Goals as goal

pub push-requires-clause-lawful : goal.push-requires-clause-lawful
push-requires-clause-lawful c =
    let w = (machine_with c.args.self.now c.args.kept.now) in
    (w.kept.block, w.kept.reserved, sending_lawful w c.args.frame (sending w w.last c.args.frame c.requires.put c.requires.whole))

abbrev new : goal.After-stage → State
new c = record c.note_finding.new.self {
  tries = c.tries_after-self.result;
  silent = c.silent_after-self.result;
  heard = c.heard_after-self.result;
  leg = c.note_silences.new.self;
}

told : (c : goal.After-stage) → machine_with (new c) c.args.kept.now ≡ heard_by (machine_with c.args.self.now c.args.kept.now) c.args.frame c.args.heard
told c =
    hears_told c.args.self.now c.note_finding.new.self c.args.kept.now c.args.frame c.args.heard _ _ _ _ _ _ c.requires.whole c.requires.put
    c.push.ensures c.note_finding.ensures c.tries_after-self.ensures c.silent_after-self.ensures c.heard_after-self.ensures c.asked_after-silences.ensures
    c.note_silences.ensures

pub returns-clause-heard : goal.returns-clause-heard
returns-clause-heard c =
    let w = machine_with c.args.self.now c.args.kept.now in
    let here : IsHeard (machine_with (new c) c.args.kept.now) (stage_of (new c).trace) =
    subst (λ (m : Machine). IsHeard m (stage_of m.trace)) (sym (told c)) (hear_heard w c.args.frame c.args.heard c.requires.whole c.requires.put) in
    subst (IsHeard (machine_with (new c) c.args.kept.now)) (sym c.stage.ensures) here

pub returns-clause-told : goal.returns-clause-told
returns-clause-told c = told c ∙ told_is (machine_with c.args.self.now c.args.kept.now) c.args.frame c.args.heard c.requires.put
