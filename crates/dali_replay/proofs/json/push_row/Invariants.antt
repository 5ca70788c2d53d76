use Rattle.std.proofs.Common.{◌≡◌, ◌++◌, string_bytes, drop}
use Rattle.dali_replay.specs.Json.{json_row}
use Rattle.dali_replay.proofs.json.push_row.Given as goal

abbrev pub invariant-loop-number : goal.invariant-loop-number
invariant-loop-number l = string_bytes l.text ++ json_row l.number (drop l.number l.row) ≡ string_bytes l.fn.text ++ json_row 0 l.row
