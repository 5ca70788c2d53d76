use Rattle.dali_special.proofs.Table.{is_terminate, is_search_high, is_arc}
use Rattle.dali_special.proofs.laws.first_frames_are_known.Goals as goal

pub returns : goal.returns
returns c = record { terminate = is_terminate; search_high = is_search_high; arc = is_arc }
