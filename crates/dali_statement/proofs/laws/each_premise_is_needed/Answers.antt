use Rattle.dali_statement.proofs.Histories.{hearing_is_needed, bytes_are_needed, draws_are_needed, whole_is_needed, one_frame_is_needed, sender_is_needed}
use Rattle.dali_statement.proofs.Histories.{destroyed_rules_are_needed}
use Rattle.dali_statement.proofs.laws.each_premise_is_needed.Goals as goal

pub returns : goal.returns
returns c = record {
  heard = hearing_is_needed;
  bytes = bytes_are_needed;
  drawn = draws_are_needed;
  whole = whole_is_needed;
  one = one_frame_is_needed;
  sender = sender_is_needed;
  overlap = destroyed_rules_are_needed;
}
