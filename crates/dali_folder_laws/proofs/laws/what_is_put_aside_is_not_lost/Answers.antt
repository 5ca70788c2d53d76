use Rattle.dali_folder_laws.proofs.{Asides.often, Kept.kept_over, Kept.away_over}
use Rattle.dali_folder_laws.proofs.laws.what_is_put_aside_is_not_lost.Goals as goal

pub returns-clause-kept : goal.returns-clause-kept
returns-clause-kept c = kept_over

pub returns-clause-away : goal.returns-clause-away
returns-clause-away c = away_over

pub returns-clause-often : goal.returns-clause-often
returns-clause-often c = often
