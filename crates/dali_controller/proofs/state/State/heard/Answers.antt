use Rattle.dali_controller.{specs.States.machine_with, proofs.{Steps.sending, Steps.sending_lawful}}
use Rattle.dali_controller.proofs.state.State.heard.Goals as goal

pub after-reached-requires-clause-lawful : goal.after-reached-requires-clause-lawful
after-reached-requires-clause-lawful c =
    let w = (machine_with c.args.self.now c.args.kept.now) in
    (w.kept.block, w.kept.reserved, sending_lawful w c.args.frame (sending w w.last c.args.frame c.requires.put c.requires.whole))
