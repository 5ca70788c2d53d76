use Rattle.std.proofs.Common.{length}
use Rattle.dali_replacement.proofs.swapping.+put_lines.Given as goal

abbrev pub decreases-put_lines : goal.decreases-put_lines
decreases-put_lines l = length l.names.now
