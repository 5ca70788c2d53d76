use Rattle.dali_folder.proofs.Writing.{stop, ended}
use Rattle.dali_folder.proofs.laws.a_text_is_written_or_not.Goals as goal

pub returns-clause-stops : goal.returns-clause-stops
returns-clause-stops c passing part name text begun was now hides calm b h = stop passing part name text hides was now begun b calm h

pub returns-clause-ends : goal.returns-clause-ends
returns-clause-ends c passing part name text was now hides = ended passing part name text hides was now
