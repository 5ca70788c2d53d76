use Rattle.dali_bus_laws.proofs.Words.{whole_word, destroyed_word}
use Rattle.dali_bus_laws.proofs.laws.a_word_says_what_became_of_the_frame.Goals as goal

pub returns : goal.returns
returns c = record { heard = whole_word; destroyed = destroyed_word }
