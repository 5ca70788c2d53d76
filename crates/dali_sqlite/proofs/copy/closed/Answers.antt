use Rattle.dali_sqlite.proofs.{Left.alone_of, Schemas.committed_table}
use Rattle.dali_sqlite.proofs.copy.closed.Goals as goal

pub returns-in-Ok-clause-up : goal.returns-in-Ok-clause-up
returns-in-Ok-clause-up g c clean =
    let copied = c.in-Ok.ensures.copied clean in
    c.is_of_records.ensures.up (copied.was_clean, copied.was_open)

pub returns-in-Ok-clause-same : goal.returns-in-Ok-clause-same
returns-in-Ok-clause-same g c clean xs held =
    let copied = c.in-Ok.ensures.copied clean in
    let here = c.is_of_records.ensures.same (copied.was_clean, copied.was_open) xs held in
    (alone_of _ _ xs copied.seen (committed_table _ xs copied.was_open c.schema.ensures.live here)).both
