use Rattle.std.proofs.Common.{◌≡◌, drop}
use Rattle.dali_capture.specs.Words.{code_after}
use Rattle.dali_capture.proofs.words.code_in.Given as goal

abbrev pub invariant-loop-byte : goal.invariant-loop-byte
invariant-loop-byte l = code_after l.code (drop l.byte-index l.identifier) ≡ code_after 1 l.identifier
