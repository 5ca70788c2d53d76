use Rattle.dali_words.proofs.line.CommandLine.number.Goals as goal

pub returns : goal.returns
returns g c = rw (← c.in_ok-value.ensures) (c.parse.result, c.parse.ensures.value, c.ok.ensures.value)
