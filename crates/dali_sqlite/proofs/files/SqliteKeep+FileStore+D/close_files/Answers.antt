use Rattle.std.proofs.Common.{sym, subst}
use Rattle.sqlite.specs.Files.{file_state}
use Rattle.dali_sqlite.{specs.Stored.Holds, proofs.Left.alone_of, proofs.Schemas.committed_table}
use Rattle.dali_sqlite.proofs.files.SqliteKeep+FileStore+D.close_files.Goals as goal

pub returns-in-Ok-clause-held : goal.returns-in-Ok-clause-held
returns-in-Ok-clause-held g c clean xs held =
    let conn = c.into_live-conn.result in
    let copied = c.in-Ok.ensures.copied clean in
    let here = subst (λ k. Holds (file_state k) xs) (sym c.into_live-conn.ensures.connection) held in
    alone_of _ _ xs copied.seen (committed_table (file_state conn) xs copied.was_open c.into_live-conn.ensures.live here)

pub returns-in-Ok-clause-crash : goal.returns-in-Ok-clause-crash
returns-in-Ok-clause-crash g c clean xs held left may =
    let conn = c.into_live-conn.result in
    let copied = c.in-Ok.ensures.copied clean in
    let here = subst (λ k. Holds (file_state k) xs) (sym c.into_live-conn.ensures.connection) held in
    alone_of left _ xs (copied.left left may) (committed_table (file_state conn) xs copied.was_open c.into_live-conn.ensures.live here)
