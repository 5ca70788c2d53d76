use Rattle.std.proofs.Common.{length}
use Rattle.dali_commission_stores.proofs.settling.+first_journal.Given as goal

abbrev pub decreases-first_journal : goal.decreases-first_journal
decreases-first_journal g l = length l.names.now
