use Rattle.dali_progress.proofs.Refused.{run_commissions, new_commissions}
use Rattle.dali_progress.proofs.laws.a_run_commissions.Goals as goal

pub returns : goal.returns
returns c = record { alone = λ b d. run_commissions d b; new = new_commissions }
