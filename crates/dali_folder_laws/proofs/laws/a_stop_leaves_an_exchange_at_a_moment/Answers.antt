use Rattle.dali_folder_laws.proofs.Over.{exchanged, settled_often}
use Rattle.dali_folder_laws.proofs.Truths.{at_first, from_last}
use Rattle.dali_folder_laws.proofs.laws.a_stop_leaves_an_exchange_at_a_moment.Goals as goal

pub returns-clause-begun : goal.returns-clause-begun
returns-clause-begun c = λ swap files x y may is begun.
    (exchanged swap files x y may (at_first swap files x is) begun).0

pub returns-clause-ends : goal.returns-clause-ends
returns-clause-ends c = λ swap files x y may is begun runs.
    from_last swap files y.folder ((exchanged swap files x y may (at_first swap files x is) begun).1 runs)

pub returns-clause-settled : goal.returns-clause-settled
returns-clause-settled c = settled_often
