use Rattle.dali_folder_laws.proofs.Truths.{missing, truth}
use Rattle.dali_folder_laws.proofs.laws.no_file_is_missing_and_none_has_two_truths.Goals as goal

pub returns-clause-missing : goal.returns-clause-missing
returns-clause-missing c = λ swap files i at x some. missing swap files some.0 i at x some.2

pub returns-clause-truth : goal.returns-clause-truth
returns-clause-truth c = λ swap files i at x some. truth swap files some.0 i at x some.2
