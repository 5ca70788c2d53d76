use Rattle.dali_script.proofs.Firsts.{first_commands, first_by, first_for_all, terminate_first, search_high_first, arc_first, random_high_first}
use Rattle.dali_script.proofs.laws.transactions_begin_once.Goals as goal

pub returns : goal.returns
returns c = record {
  begins = λ b xs f. (λ lawful. (b, xs, lawful), first_for_all b xs f);
  first = λ f. (first_commands f, first_by f);
  terminate = terminate_first;
  search_high = search_high_first;
  arc = arc_first;
  random_high = random_high_first;
}
