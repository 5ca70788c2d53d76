use Rattle.std.proofs.Common.{◌≡◌, ◌≤◌, ◌+◌, [], length}
use Rattle.dali_grammar.specs.{Lines.numbered_after, Setting.used_of}
use Rattle.dali_grammar.proofs.setting.used_gear.Given as goal

abbrev pub invariant-loop-used : goal.invariant-loop-used
invariant-loop-used l = record {
  named : used_of [] (numbered_after l.fn.script.read l.fn.script.rest.now) ≡ used_of l.used.items (numbered_after l.script.read l.script.rest.now);
  range : l.script.read + length l.script.rest.now ≤ 1048576;
}

abbrev pub decreases-loop-used : goal.decreases-loop-used
decreases-loop-used l = length (numbered_after l.script.read l.script.rest.now)
