use Rattle.std.proofs.Common.{◌≡◌, false, [], Err, rules}
use Rattle.sqlite.specs.Held.{state}
use Rattle.dali_reserve.specs.declared.error.KeepError.TheVariants.{BadStore}
use Rattle.dali_sqlite.proofs.Known.{stored}
use Rattle.dali_sqlite.proofs.keep.SqliteKeep.over.Goals as goal

pub returns-in_err-kept-clause-bad : goal.returns-in_err-kept-clause-bad
returns-in_err-kept-clause-bad g c bad =
    let told : c.replay.result ≡ Err BadStore = search rules in
    let never = c.replay.ensures.bad told in
    (c.replay.new.conn, λ clean xs held. (never clean).1 xs (c.in_ok-ensure_table.ensures.same (never clean).0 xs held))

pub returns-clause-sound : goal.returns-clause-sound
returns-clause-sound g c up ours =
    let found = c.in_ok-kept.ensures.known up.0 (c.in_ok-ensure_table.ensures.has (c.replay.ensures.up up) ours) in
    stored (state g.S.Store c.replay.new.conn) c.in_ok-kept.kept c.in_ok-kept.count false found.0 found.1 (λ _. found.2)

pub returns-clause-empty : goal.returns-clause-empty
returns-clause-empty g c up none = c.replay.ensures.same up [] (c.in_ok-ensure_table.ensures.empty (c.replay.ensures.up up) none)
