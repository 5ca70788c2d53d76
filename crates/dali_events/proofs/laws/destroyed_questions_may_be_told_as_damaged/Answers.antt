use Rattle.dali_events.proofs.Telling.{told_is_run, told_world, told_promise, told_ever_after, given_up}
use Rattle.dali_events.proofs.laws.destroyed_questions_may_be_told_as_damaged.Goals as goal

pub returns : goal.returns
returns c = record { run = told_is_run; world = told_world; promise = told_promise; ever_after = told_ever_after; given_up = given_up }
