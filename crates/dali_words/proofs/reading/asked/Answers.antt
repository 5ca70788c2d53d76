use Rattle.dali_words.proofs.reading.asked.Goals as goal

pub returns-in-Ok : goal.returns-in-Ok
returns-in-Ok g c = (_, c.in-Ok.ensures.0, c.in-Ok.ensures.1)
