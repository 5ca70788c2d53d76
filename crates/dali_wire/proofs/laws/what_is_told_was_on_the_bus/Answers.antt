use Rattle.dali_wire.proofs.Sound.{from_idle}
use Rattle.dali_wire.proofs.laws.what_is_told_was_on_the_bus.Goals as goal

pub returns : goal.returns
returns c = λ t since bus frame lo hi told. from_idle t lo hi since bus frame told
