use Rattle.std.proofs.Common.{length}
use Rattle.dali_commission_asked.proofs.ending.+ask_again.Given as goal

abbrev pub decreases-ask_again : goal.decreases-ask_again
decreases-ask_again g l = length l.numbers.now
