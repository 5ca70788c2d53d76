use Rattle.dali_statement.proofs.Histories.{number_is_needed, initialise_is_needed, query_is_needed, silence_is_needed, search_is_needed, program_is_needed}
use Rattle.dali_statement.proofs.Histories.{reservation_is_needed, no_erasing_is_needed}
use Rattle.dali_statement.proofs.laws.each_clause_of_program_is_needed.Goals as goal

pub returns : goal.returns
returns c = record {
  number = number_is_needed;
  initialise = initialise_is_needed;
  query = query_is_needed;
  silence = silence_is_needed;
  search = search_is_needed;
  program = program_is_needed;
  reserved = reservation_is_needed;
  erase = no_erasing_is_needed;
}
