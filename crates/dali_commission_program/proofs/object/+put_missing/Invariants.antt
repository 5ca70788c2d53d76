use Rattle.std.proofs.Common.{length}
use Rattle.dali_commission_program.proofs.object.+put_missing.Given as goal

abbrev pub decreases-put_missing : goal.decreases-put_missing
decreases-put_missing l = length l.places.now
