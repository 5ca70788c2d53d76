use Rattle.std.proofs.Common.{length}
use Rattle.dali_commission_cleared.proofs.clearing.+clear_all.Given as goal

abbrev pub decreases-clear_all : goal.decreases-clear_all
decreases-clear_all g l = length l.rounds.now
