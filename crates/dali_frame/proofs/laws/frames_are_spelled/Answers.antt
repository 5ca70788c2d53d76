use Rattle.dali_frame.proofs.HexLemmas.{frame_is_text}
use Rattle.dali_frame.proofs.laws.frames_are_spelled.Goals as goal

pub returns-clause-only : goal.returns-clause-only
returns-clause-only c = frame_is_text
