use Rattle.dali_story.proofs.Places.{sent_placed, destroyed_placed}
use Rattle.dali_story.proofs.laws.places_are_those_of_traces.Goals as goal

pub returns : goal.returns
returns c = record { sent = sent_placed; destroyed = destroyed_placed }
