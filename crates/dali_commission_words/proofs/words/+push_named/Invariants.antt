use Rattle.std.proofs.Common.{length}
use Rattle.dali_commission_words.proofs.words.+push_named.Given as goal

abbrev pub decreases-push_named : goal.decreases-push_named
decreases-push_named l = length l.words.now
