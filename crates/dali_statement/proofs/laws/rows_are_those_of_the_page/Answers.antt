use Rattle.dali_statement.proofs.Rows.{sent_to_all, reached, heard}
use Rattle.dali_statement.proofs.laws.rows_are_those_of_the_page.Goals as goal

pub returns : goal.returns
returns c = record {
  sent = λ x gs left e. sent_to_all x 0 gs left e;
  reached = λ reach x gs left spelled shorts. reached reach x 0 gs left spelled shorts;
  heard = heard;
}
