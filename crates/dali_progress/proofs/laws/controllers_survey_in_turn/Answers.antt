use Rattle.dali_progress.proofs.InTurn.{comes_alone, ended_still, turns_still, turns_bounded, turns_keep, turns_found, turns_enough, turn_named, turns_agree}
use Rattle.dali_progress.proofs.laws.controllers_survey_in_turn.Goals as goal

pub returns : goal.returns
returns c = record {
  comes = comes_alone;
  rests = ended_still;
  still = turns_still;
  frames = turns_bounded;
  keeps = turns_keep;
  found = turns_found;
  enough = turns_enough;
  named = turn_named;
  agree = turns_agree;
}
