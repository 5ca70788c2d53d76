use Rattle.std.proofs.Common.{◌≡◌, option_map, drop}
use Rattle.dali_capture.specs.Captures.{read_bytes}
use Rattle.dali_capture.proofs.reader.SoFar.bytes.Given as goal

abbrev pub invariant-loop-byte : goal.invariant-loop-byte
invariant-loop-byte l =
    read_bytes (option_map (λ w. w.now) l.wanted) l.is_inverted l.self (drop l.byte-index l.bytes)
    ≡ read_bytes (option_map (λ w. w.now) l.wanted) l.is_inverted l.fn.self l.bytes
