use Rattle.std.proofs.Common.{length}
use Rattle.dali_commission_program.proofs.object.+put_numbers.Given as goal

abbrev pub decreases-put_numbers : goal.decreases-put_numbers
decreases-put_numbers l = length l.numbers.now
