use Rattle.dali_statement.proofs.Histories.{shorts_are_needed, short_row_is_needed, block_row_is_needed, small_row_is_needed, below_row_is_needed}
use Rattle.dali_statement.proofs.Histories.{numbered_row_is_needed, tables_are_needed}
use Rattle.dali_statement.proofs.laws.each_row_of_a_plan_is_needed.Goals as goal

pub returns : goal.returns
returns c = record {
  shorts = shorts_are_needed;
  short = short_row_is_needed;
  block = block_row_is_needed;
  small = small_row_is_needed;
  below = below_row_is_needed;
  number = numbered_row_is_needed;
  tables = tables_are_needed;
}
