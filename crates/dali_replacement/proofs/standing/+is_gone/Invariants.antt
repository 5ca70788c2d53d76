use Rattle.std.proofs.Common.{length}
use Rattle.dali_replacement.proofs.standing.+is_gone.Given as goal

abbrev pub decreases-is_gone : goal.decreases-is_gone
decreases-is_gone l = length l.gone.now
