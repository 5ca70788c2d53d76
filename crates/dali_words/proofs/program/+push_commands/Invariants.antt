use Rattle.std.proofs.Common.{length}
use Rattle.dali_words.proofs.program.+push_commands.Given as goal

abbrev pub decreases-push_commands : goal.decreases-push_commands
decreases-push_commands l = length l.all.now
