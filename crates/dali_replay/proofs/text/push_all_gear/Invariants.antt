use Rattle.std.proofs.Common.{◌≡◌, ◌++◌, drop, string_bytes}
use Rattle.dali_replay.specs.Text.{gear_texts}
use Rattle.dali_replay.proofs.text.push_all_gear.Given as goal

abbrev pub invariant-loop-number : goal.invariant-loop-number
invariant-loop-number l = string_bytes l.text ++ gear_texts l.number (drop l.number l.row) ≡ string_bytes l.fn.text ++ gear_texts 0 l.row
