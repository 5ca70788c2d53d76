use Rattle.dali_statement.proofs.Histories.{told_is_needed, within_is_needed, free_is_needed, block_is_needed, unused_is_needed, short_is_needed}
use Rattle.dali_statement.proofs.Histories.{below_is_needed, its_number_is_needed, told_of_release_is_needed, another_is_needed}
use Rattle.dali_statement.proofs.laws.each_clause_of_records_is_needed.Goals as goal

pub returns : goal.returns
returns c = record {
  told = told_is_needed;
  within = within_is_needed;
  free = free_is_needed;
  block = block_is_needed;
  unused = unused_is_needed;
  short = short_is_needed;
  below = below_is_needed;
  number = its_number_is_needed;
  release = told_of_release_is_needed;
  another = another_is_needed;
}
