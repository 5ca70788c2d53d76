use Rattle.std.proofs.Common.{length}
use Rattle.dali_commission_said.proofs.said.+say_all.Given as goal

abbrev pub decreases-say_all : goal.decreases-say_all
decreases-say_all g l = length l.lines.now
