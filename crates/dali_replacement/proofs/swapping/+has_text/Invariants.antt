use Rattle.std.proofs.Common.{length}
use Rattle.dali_replacement.proofs.swapping.+has_text.Given as goal

abbrev pub decreases-has_text : goal.decreases-has_text
decreases-has_text l = length l.names.now
