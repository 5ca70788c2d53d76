use Rattle.std.proofs.Common.{◌≡◌, ℕ, ◌^◌, ◌<◌, ◌≤◌, false, List, length, drop, None, refl, arith, nat_lt}
use Rattle.std.proofs.{Math.Seq.drop-cons, lemmas.Bool.Decides.nat_tests}
use Rattle.dali_capture.specs.Words.{code_after}
use Rattle.dali_capture.proofs.words.code_in.Goals as goal

-- behind seven bytes no byte may follow
spent : (code : ℕ) (bytes : List ℕ) (i : ℕ) → i < length bytes → 2 ^ 56 ≤ code → code_after code (drop i bytes) ≡ None
spent code bytes i here large =
    let long : nat_lt code (2 ^ 56) ≡ false = grind (arith, nat_tests) in
    rw (drop-cons bytes i 0, long) refl

pub returns-then-code-ge-LONGEST_CODE : goal.returns-then-code-ge-LONGEST_CODE
returns-then-code-ge-LONGEST_CODE c =
    let none = spent c.loop-byte.code c.args.identifier.now c.loop-byte.byte-index (omega arith) (omega arith) in
    cc
