use Rattle.dali_controller.proofs.Chosen.{chosen}
use Rattle.dali_controller.proofs.state.State.chooses.Goals as goal

pub returns-in_default : goal.returns-in_default
returns-in_default c = chosen _ _ _ _ _ c.in_default.not-Free c.in_default.not-Unnamed c.in_default.not-Hunted c.turns.ensures
