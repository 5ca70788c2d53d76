use Rattle.dali_folder_laws.proofs.Apart.{may_begin}
use Rattle.dali_folder_laws.proofs.laws.an_exchange_of_names_that_differ_may_begin.Goals as goal

pub returns : goal.returns
returns c = may_begin
