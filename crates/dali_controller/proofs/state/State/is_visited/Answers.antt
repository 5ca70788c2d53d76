use Rattle.dali_script.proofs.Lists.{random_found}
use Rattle.dali_controller.proofs.state.State.is_visited.Goals as goal

pub returns : goal.returns
returns c = rw c.is_some.ensures (random_found c.args.kept.now.reserved c.args.number c.reserved_for.result c.reserved_for.ensures.value)
