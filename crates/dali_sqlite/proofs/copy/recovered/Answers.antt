use Rattle.std.proofs.Common.{Result, Ok, Err, IfOk}
use Rattle.sqlite.specs.Files.{file_state}
use Rattle.dali_sqlite.proofs.{Left.finds_records, Schemas.opened_holds}
use Rattle.dali_sqlite.proofs.copy.recovered.Goals as goal

of_two : {T E : Type 0} (r : Result T E) (A B Q : T → Type 0) → ((k : T) → A k → B k → Q k) → IfOk r A → IfOk r B → IfOk r Q
of_two (Ok k) A B Q all a b = all k a b
of_two (Err e) A B Q all a b = tt

pub returns-in-Ok-clause-same : goal.returns-in-Ok-clause-same
returns-in-Ok-clause-same g c =
    let conn = c.in-Ok.conn in
    of_two c.closed.result _ _ _ (λ left up same clean xs held.
    let was = up clean in
    let opened = c.in-Ok.ensures.opened was.0 in
    let at = finds_records c.args.files conn xs (c.in-Ok.ensures.found was.0) held in
    same clean xs (opened_holds (file_state conn) held.trees xs opened.0 opened.1 at held.table)) c.closed.ensures.up c.closed.ensures.same
