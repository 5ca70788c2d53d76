use Rattle.std.proofs.Common.{◌≡◌, ◌+◌, ◌≤◌, length, string_bytes}
use Rattle.dali_grammar.specs.Lines.{numbered_after}
use Rattle.dali_replay.{specs.Played.events_in, proofs.PlayedLemmas.Kept}
use Rattle.dali_replay.proofs.played.play_all.Given as goal

abbrev pub invariant-loop-line : goal.invariant-loop-line
invariant-loop-line l = record {
  kept : Kept l.fn.player (numbered_after l.fn.script.read l.fn.script.rest.now) l.fn.lines.items l.fn.log.items (string_bytes l.fn.reports) l.player
      (numbered_after l.script.read l.script.rest.now) l.lines.items l.log.items (string_bytes l.reports);
  first : l.first ≡ events_in l.player l.log.items;
  range : l.script.read + length l.script.rest.now ≤ 1048576;
}

abbrev pub decreases-loop-line : goal.decreases-loop-line
decreases-loop-line l = length (numbered_after l.script.read l.script.rest.now)
