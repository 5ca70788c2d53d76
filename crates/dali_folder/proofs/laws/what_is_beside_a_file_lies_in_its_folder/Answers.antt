use Rattle.dali_folder.proofs.Names.{beside}
use Rattle.dali_folder.proofs.laws.what_is_beside_a_file_lies_in_its_folder.Goals as goal

pub returns : goal.returns
returns c name end none = beside name end none
