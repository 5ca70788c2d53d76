use Rattle.std.proofs.Common.{length}
use Rattle.dali_commission_program.proofs.object.+put_strangers.Given as goal

abbrev pub decreases-put_strangers : goal.decreases-put_strangers
decreases-put_strangers l = length l.places.now
