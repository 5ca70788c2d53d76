use Rattle.std.proofs.Common.{refl}
use Rattle.dali_controller.proofs.Legs.{whole_unstarted}
use Rattle.dali_controller.proofs.state.State.new.Goals as goal

pub returns-clause-whole : goal.returns-clause-whole
returns-clause-whole c k = whole_unstarted _ k c.new.ensures refl refl refl refl refl
