use Rattle.std.proofs.Common.{◌≡◌, ◌≤◌, ◌+◌, length}
use Rattle.dali_grammar.specs.Lines.{lines_of, numbered_after}
use Rattle.dali_grammar.proofs.lines.Script.next.Given as goal

abbrev pub invariant-loop-line : goal.invariant-loop-line
invariant-loop-line l = record {
  lines : numbered_after l.fn.self.read l.fn.self.rest.now ≡ numbered_after l.self.read l.self.rest.now;
  counted : l.self.read + length (lines_of l.self.rest.now) ≡ l.fn.self.read + length (lines_of l.fn.self.rest.now);
  range : l.self.read + length l.self.rest.now ≤ 1048576;
}

abbrev pub decreases-loop-line : goal.decreases-loop-line
decreases-loop-line l = length l.self.rest.now
