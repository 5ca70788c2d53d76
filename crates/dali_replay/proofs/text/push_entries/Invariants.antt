use Rattle.std.proofs.Common.{◌≡◌, ◌++◌, string_bytes, drop}
use Rattle.dali_replay.specs.Text.{entries_text}
use Rattle.dali_replay.proofs.text.push_entries.Given as goal

abbrev pub invariant-loop-entry : goal.invariant-loop-entry
invariant-loop-entry l = string_bytes l.text ++ entries_text (drop l.entry-index l.entries) ≡ string_bytes l.fn.text ++ entries_text l.entries
