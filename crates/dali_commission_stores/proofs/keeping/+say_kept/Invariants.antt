use Rattle.std.proofs.Common.{length}
use Rattle.dali_commission_stores.proofs.keeping.+say_kept.Given as goal

abbrev pub decreases-say_kept : goal.decreases-say_kept
decreases-say_kept g l = length l.names.now
