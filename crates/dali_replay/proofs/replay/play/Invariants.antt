use Rattle.std.proofs.Common.{◌+◌, ◌≤◌, length}
use Rattle.dali_grammar.specs.Lines.{numbered_after}
use Rattle.dali_replay.proofs.PlayerLemmas.{LeadsOn}
use Rattle.dali_replay.proofs.replay.play.Given as goal

abbrev pub invariant-loop-line : goal.invariant-loop-line
invariant-loop-line g l = record {
  leads : LeadsOn l.fn.form l.fn.player (numbered_after l.fn.script.read l.fn.script.rest.now) (g.W.Write.contents l.fn.writer) l.player
      (numbered_after l.script.read l.script.rest.now) (g.W.Write.contents l.writer);
  range : l.script.read + length l.script.rest.now ≤ 1048576;
}

abbrev pub decreases-loop-line : goal.decreases-loop-line
decreases-loop-line g l = length (numbered_after l.script.read l.script.rest.now)
