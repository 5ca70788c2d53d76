use Rattle.std.proofs.Common.{length}
use Rattle.dali_commission_program.proofs.object.+put.Given as goal

abbrev pub decreases-put : goal.decreases-put
decreases-put l = length l.members.now
