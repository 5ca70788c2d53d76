use Rattle.dali_replacement.proofs.Moments.{old, new, one, begun, ended}
use Rattle.dali_replacement.proofs.laws.no_moment_has_two_truths.Goals as goal

pub returns-clause-one : goal.returns-clause-one
returns-clause-one c = one

pub returns-clause-written : goal.returns-clause-written
returns-clause-written c = λ n m i early inside. old n m i early

pub returns-clause-moved : goal.returns-clause-moved
returns-clause-moved c = λ n m i late inside. new n m i inside late

pub returns-clause-begun : goal.returns-clause-begun
returns-clause-begun c = begun

pub returns-clause-ended : goal.returns-clause-ended
returns-clause-ended c = ended
