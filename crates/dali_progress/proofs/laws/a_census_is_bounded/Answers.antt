use Rattle.dali_progress.proofs.Census.Course.{any_bounded, steady_bounded, few_again}
use Rattle.dali_progress.proofs.laws.a_census_is_bounded.Goals as goal

pub returns : goal.returns
returns c = record { any = any_bounded; steady = steady_bounded; again = few_again }
