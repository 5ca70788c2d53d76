use Rattle.dali_events.proofs.Search.Heard.{nobody_answers}
use Rattle.dali_events.proofs.laws.silence_is_nobody.Goals as goal

pub returns : goal.returns
returns c = nobody_answers
