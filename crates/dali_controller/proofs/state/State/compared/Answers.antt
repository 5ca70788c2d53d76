use Rattle.std.proofs.Common.{subst}
use Rattle.dali_script.specs.declared.stage.Stage.TheVariants.{Hunted}
use Rattle.dali_controller.{specs.Moments.IsHeard, specs.States.machine_with, proofs.Asking.hunted_moment, proofs.Beginnings.called_moment}
use Rattle.dali_controller.proofs.state.State.compared.Goals as goal

pub returns-in-Hunting-Some-clause-moment : goal.returns-in-Hunting-Some-clause-moment
returns-in-Hunting-Some-clause-moment c =
    let w = machine_with c.args.self.now c.args.kept.now in
    hunted_moment w c.args.sent c.in-Hunting-Some.heard c.args.left _ _
    (subst (λ h. IsHeard w (Hunted c.args.sent h c.args.left)) c.in-Hunting-Some.is-1 c.requires.heard) c.in-Hunting-Some.is-0 c.answered.ensures

pub returns-in-Calling-Some-clause-moment : goal.returns-in-Calling-Some-clause-moment
returns-in-Calling-Some-clause-moment c =
    let w = machine_with c.args.self.now c.args.kept.now in
    called_moment w c.args.sent c.in-Calling-Some.heard c.args.left _ _
    (subst (λ h. IsHeard w (Hunted c.args.sent h c.args.left)) c.in-Calling-Some.is-1 c.requires.heard) c.in-Calling-Some.is-0 c.called.ensures
