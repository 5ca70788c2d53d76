use Rattle.dali_script.proofs.Transactions.{initialise_at, randomise_at}
use Rattle.dali_script.proofs.laws.openings_begin_with_terminate.Goals as goal

pub returns : goal.returns
returns c = record { initialise = initialise_at; randomise = randomise_at }
