use Rattle.dali_events.proofs.Invariant.Drawn.{drawn_in_front}
use Rattle.dali_events.proofs.laws.numbers_are_drawn.Goals as goal

pub returns : goal.returns
returns c = drawn_in_front
