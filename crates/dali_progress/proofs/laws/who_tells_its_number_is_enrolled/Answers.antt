use Rattle.dali_progress.proofs.Census.Spelled.{who_answers, who_told}
use Rattle.dali_progress.proofs.laws.who_tells_its_number_is_enrolled.Goals as goal

pub returns : goal.returns
returns c = record { told = who_told; taken = who_answers }
