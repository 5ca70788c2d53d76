use Rattle.std.proofs.Common.{string_bytes}
use Rattle.dali_replay.proofs.RoundLemmas.{AreSoFar}
use Rattle.dali_replay.proofs.rounds.turns.Given as goal

abbrev pub invariant-loop-c : goal.invariant-loop-c
invariant-loop-c l = AreSoFar l.fn.installation l.c l.acted l.installation (string_bytes l.fn.text) (string_bytes l.text)
