use Rattle.dali_folder_laws.proofs.Machines.{over_every_crash}
use Rattle.dali_folder_laws.proofs.laws.an_exchange_ends_over_every_crash.Goals as goal

pub returns : goal.returns
returns c passing part log swap files often x z y w done may fits calm is = over_every_crash passing part log swap files fits often x z y w done may calm is
