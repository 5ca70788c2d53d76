use Rattle.dali_progress.{proofs.Beginnings.{ends, named}, proofs.Survey.Again.quiet_tabled, proofs.Survey.Vacant.enough_found}
use Rattle.dali_progress.proofs.laws.its_end_is_true.Goals as goal

pub returns : goal.returns
returns c = record { done = ends; enough = enough_found; table = named; quiet = quiet_tabled }
