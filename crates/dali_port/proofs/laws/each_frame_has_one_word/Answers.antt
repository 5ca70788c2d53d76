use Rattle.dali_port.proofs.Words.{one_word}
use Rattle.dali_port.proofs.Ends.{words_are}
use Rattle.dali_port.proofs.laws.each_frame_has_one_word.Goals as goal

pub returns : goal.returns
returns c = record { call = one_word; run = words_are }
