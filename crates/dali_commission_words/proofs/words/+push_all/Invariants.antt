use Rattle.std.proofs.Common.{length}
use Rattle.dali_commission_words.proofs.words.+push_all.Given as goal

abbrev pub decreases-push_all : goal.decreases-push_all
decreases-push_all g l = length l.values.now
