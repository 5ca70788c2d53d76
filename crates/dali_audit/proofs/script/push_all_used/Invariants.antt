use Rattle.std.proofs.Common.{◌≡◌, ◌++◌, string_bytes, drop}
use Rattle.dali_audit.specs.Script.{all_used_text}
use Rattle.dali_audit.proofs.script.push_all_used.Given as goal

abbrev pub invariant-loop-number : goal.invariant-loop-number
invariant-loop-number l =
    string_bytes l.text ++ all_used_text l.number (drop l.number l.places) ≡ string_bytes l.fn.text ++ all_used_text 0 l.places
