use Rattle.std.proofs.Common.{length}
use Rattle.dali_words.proofs.program.+push_args.Given as goal

abbrev pub decreases-push_args : goal.decreases-push_args
decreases-push_args l = length l.words.now
