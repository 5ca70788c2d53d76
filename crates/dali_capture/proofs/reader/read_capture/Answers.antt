use Rattle.std.proofs.Common.{◌≡◌, length, option_map, take, arith, length-take}
use Rattle.dali_capture.proofs.Bytes.{follows_more, follows_fault}
use Rattle.dali_capture.proofs.reader.read_capture.Goals as goal

pub loop-read-preserved : goal.loop-read-preserved
loop-read-preserved g c =
    let size : length (take c.in-Ok.count c.read.new.buf) ≡ c.in-Ok.count = simp length-take (omega (arith, c.in-Ok.ensures.bound)) in
    rw size at
    (follows_more (option_map (λ w. w.now) c.args.wanted) c.args.is_inverted (g.R.Read.remaining c.args.reader.now)
    (g.R.Read.remaining c.loop-read.reader) (g.R.Read.remaining c.read.new.self) c.loop-read.so_far c.bytes.new.self c.loop-read.read
    (take c.in-Ok.count c.read.new.buf) c.loop-read.invariant c.in-Ok.ensures.bytes.0 c.in-Ok-bytes.ensures)

pub returns-in-Err-clause-fault : goal.returns-in-Err-clause-fault
returns-in-Err-clause-fault g c =
    follows_fault (option_map (λ w. w.now) c.args.wanted) c.args.is_inverted (g.R.Read.remaining c.args.reader.now)
    (g.R.Read.remaining c.loop-read.reader) (g.R.Read.remaining c.read.new.self) c.loop-read.so_far c.loop-read.read
    (take c.in-Ok.count c.read.new.buf) c.in-Err.fault c.loop-read.invariant c.in-Ok.ensures.bytes.0 c.in-Err.ensures
