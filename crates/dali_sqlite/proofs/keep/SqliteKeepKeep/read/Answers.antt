use Rattle.std.proofs.Common.{false}
use Rattle.sqlite.specs.Held.{state}
use Rattle.dali_sqlite.proofs.Known.{stored, still_stored}
use Rattle.dali_sqlite.proofs.keep.SqliteKeepKeep.read.Goals as goal

pub returns-in_err-kept-clause-sound : goal.returns-in_err-kept-clause-sound
returns-in_err-kept-clause-sound g c sound up =
    still_stored (state g.S.Store c.args.self.now.conn) (state g.S.Store c.replay.new.conn) c.args.self.now.kept c.args.self.now.count c.args.self.now.must_read
    (c.replay.ensures.same up) sound

pub returns-clause-sound : goal.returns-clause-sound
returns-clause-sound g c sound up =
    let found = c.in_ok-kept.ensures.known up.0 sound.held.has in
    stored (state g.S.Store c.replay.new.conn) c.in_ok-kept.kept c.in_ok-kept.count false found.0 found.1 (λ _. found.2)
