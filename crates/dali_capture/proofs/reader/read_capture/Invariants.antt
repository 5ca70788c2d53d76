use Rattle.std.proofs.Common.{◌-◌, option_map}
use Rattle.dali_capture.proofs.Bytes.{Follows}
use Rattle.dali_capture.proofs.reader.read_capture.Given as goal

abbrev pub invariant-loop-read : goal.invariant-loop-read
invariant-loop-read g l =
    Follows (option_map (λ w. w.now) l.wanted) l.is_inverted (g.R.Read.remaining l.fn.reader)
    (g.R.Read.remaining l.reader) l.so_far l.read

abbrev pub decreases-loop-read : goal.decreases-loop-read
decreases-loop-read g l = 67108865 - l.read
