use Rattle.dali_statement.proofs.Histories.{others_are_needed, in_step_is_needed, own_destroyed_is_needed, destroyed_is_needed, counted_is_needed}
use Rattle.dali_statement.proofs.Histories.{as_its_own_is_needed}
use Rattle.dali_statement.proofs.laws.each_clause_of_lists_is_needed.Goals as goal

pub returns : goal.returns
returns c = record {
  others = others_are_needed;
  in_step = in_step_is_needed;
  own = own_destroyed_is_needed;
  destroyed = destroyed_is_needed;
  counted = counted_is_needed;
  misread = as_its_own_is_needed;
}
