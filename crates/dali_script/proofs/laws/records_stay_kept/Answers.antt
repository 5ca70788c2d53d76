use Rattle.dali_script.proofs.{Giving.one_address, Lists.kept_none, Lists.kept_more}
use Rattle.dali_script.proofs.laws.records_stay_kept.Goals as goal

pub returns : goal.returns
returns c = record { none = kept_none; more = kept_more; one_address = λ xs a d n m. one_address xs a d n m.random_once }
