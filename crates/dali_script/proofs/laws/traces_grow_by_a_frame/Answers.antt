use Rattle.dali_script.proofs.{Firsts.free_is_empty, Found.searched_more, Found.asked_more, Found.finding_more}
use Rattle.dali_script.proofs.Transactions.{stage_none, stage_more}
use Rattle.dali_script.proofs.laws.traces_grow_by_a_frame.Goals as goal

pub returns : goal.returns
returns c = record { none = stage_none; free = free_is_empty; stage = stage_more; search = searched_more; asked = asked_more; found = finding_more }
