use Rattle.std.proofs.Common.{length}
use Rattle.dali_commission_stores.proofs.settling.+syncs.Given as goal

abbrev pub decreases-syncs : goal.decreases-syncs
decreases-syncs g l = length l.names.now
