use Rattle.dali_commission_files.proofs.Found.{shows}
use Rattle.dali_commission_files.proofs.Told.{closed}
use Rattle.dali_commission_files.proofs.files.opened.Goals as goal

pub returns-clause-refused : goal.returns-clause-refused
returns-clause-refused c = closed c.in-Err-open_files.error c.why_closed.result c.why_closed.ensures.said c.why_closed.ensures.unsaid

pub returns-in-Ok-open_files-clause-found : goal.returns-in-Ok-open_files-clause-found
returns-in-Ok-open_files-clause-found c =
    shows c.in-Ok.files c.in-Ok-open_files.conn c.in-Ok-open_files.ensures.found c.in-Ok-open_files.ensures.opened
