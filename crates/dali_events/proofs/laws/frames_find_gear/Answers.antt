use Rattle.dali_events.proofs.Search.Halves.{no_half_at_first, no_half_while_one, no_short_at_randomise, gear_are_searched, no_short_while_unnamed}
use Rattle.dali_events.proofs.laws.frames_find_gear.Goals as goal

pub returns : goal.returns
returns c = record {
  half = no_half_at_first;
  half_still = no_half_while_one;
  randomise = no_short_at_randomise;
  search = gear_are_searched;
  unnamed = no_short_while_unnamed;
}
