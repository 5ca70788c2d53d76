use Rattle.dali_folder_laws.proofs.News.{lent, lies, away}
use Rattle.dali_folder_laws.proofs.laws.a_new_file_is_used_or_put_aside.Goals as goal

pub returns-clause-lent : goal.returns-clause-lent
returns-clause-lent c = lent

pub returns-clause-lies : goal.returns-clause-lies
returns-clause-lies c = lies

pub returns-clause-away : goal.returns-clause-away
returns-clause-away c = away
