use Rattle.std.proofs.Common.{length}
use Rattle.dali_commission_asked.proofs.identifying.+blinks.Given as goal

abbrev pub decreases-blinks : goal.decreases-blinks
decreases-blinks g l = length l.times.now
