use Rattle.std.proofs.Common.{subst}
use Rattle.sqlite.specs.{FileStore.recovers, Files.file_state, WalFiles.outcomes, WalReads.AreClean}
use Rattle.sqlite_store.specs.Laws.{settled_at}
use Rattle.dali_sqlite.{specs.Keep.connection_of, proofs.Left.stopped, proofs.Left.left_records, proofs.Left.either_records, proofs.Schemas.committed_table}
use Rattle.dali_sqlite.proofs.files.SqliteKeep+FileStore+D.into_files.Goals as goal

pub returns-clause-allowed : goal.returns-clause-allowed
returns-clause-allowed g c clean left may =
    let here = subst (λ p. AreClean g.D.Disk p.0 p.1) c.close.ensures clean in
    let leaves = subst (λ p. outcomes g.D.Disk p.0 p.1 left) c.close.ensures may in
    let store = c.into_store in
    stopped (connection_of c.args.self).store store.result store.ensures.quiet store.ensures.numbered store.ensures.sound here left leaves

pub returns-clause-held : goal.returns-clause-held
returns-clause-held g c clean up xs held left may =
    let conn = connection_of c.args.self in
    let table = committed_table (file_state conn) xs up.1 c.into_store.ensures.live held in
    left_records left _ xs (recovers conn.store) (λ trees. settled_at conn.store g.met.D.Disk.seen_may_stay trees up.1) table
    (returns-clause-allowed g c clean left may)

pub returns-clause-either : goal.returns-clause-either
returns-clause-either g c clean xs ys tables left may =
    either_records left xs ys (recovers (connection_of c.args.self).store) tables (returns-clause-allowed g c clean left may)
