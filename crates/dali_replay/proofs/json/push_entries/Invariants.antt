use Rattle.std.proofs.Common.{◌≡◌, ◌++◌, string_bytes, drop}
use Rattle.dali_replay.specs.Json.{json_entries}
use Rattle.dali_replay.proofs.json.push_entries.Given as goal

abbrev pub invariant-loop-number : goal.invariant-loop-number
invariant-loop-number l = string_bytes l.text ++ json_entries l.number (drop l.number l.entries) ≡ string_bytes l.fn.text ++ json_entries 0 l.entries
