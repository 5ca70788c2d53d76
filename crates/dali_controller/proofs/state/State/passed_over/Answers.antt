use Rattle.dali_controller.{specs.States.machine_with, proofs.Beginnings.passed_moment}
use Rattle.dali_controller.proofs.state.State.passed_over.Goals as goal

pub returns : goal.returns
returns c = passed_moment (machine_with c.args.self.now c.args.kept.now) c.requires.0 _ _ c.requires.1 c.hunt_above.ensures
