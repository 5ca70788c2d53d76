use Rattle.dali_commissioning.proofs.{Acts.keeps_to_scripts, Acts.records_are_kept, Outstanding.outstanding_own}
use Rattle.dali_commissioning.proofs.laws.what_is_conducted_keeps_to_scripts.Goals as goal

pub returns-clause-own : goal.returns-clause-own
returns-clause-own c = keeps_to_scripts

pub returns-clause-last : goal.returns-clause-last
returns-clause-last c = outstanding_own

pub returns-clause-records : goal.returns-clause-records
returns-clause-records c = records_are_kept
