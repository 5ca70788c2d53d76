use Rattle.std.proofs.Common.{◌≡◌, ◌++◌, drop, string_bytes}
use Rattle.dali_story.specs.Members.{json_text}
use Rattle.dali_story.proofs.members.push_text.Given as goal

abbrev pub invariant-loop-byte : goal.invariant-loop-byte
invariant-loop-byte l =
    string_bytes l.text ++ json_text (drop l.byte-index l.bytes) ≡ string_bytes l.fn.text ++ json_text l.bytes
