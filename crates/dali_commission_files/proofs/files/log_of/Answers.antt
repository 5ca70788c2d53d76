use Rattle.dali_commission_files.proofs.Told.{no_memory}
use Rattle.dali_commission_files.proofs.files.log_of.Goals as goal

pub returns-in-Ok-clause-refused : goal.returns-in-Ok-clause-refused
returns-in-Ok-clause-refused c = no_memory c.made.result c.made.ensures.refused

pub returns-in-Err-clause-refused : goal.returns-in-Err-clause-refused
returns-in-Err-clause-refused c = no_memory c.made-in-Err.result c.made-in-Err.ensures.refused
