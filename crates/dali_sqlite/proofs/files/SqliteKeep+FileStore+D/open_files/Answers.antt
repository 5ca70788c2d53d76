use Rattle.std.proofs.Common.{inr, Result, Ok, Err, IfOk}
use Rattle.sqlite.specs.Files.{file_state}
use Rattle.dali_sqlite.proofs.{Left.finds_records, Schemas.opened_holds}
use Rattle.dali_sqlite.proofs.files.SqliteKeep+FileStore+D.open_files.Goals as goal

of_three : {T E : Type 0} (r : Result T E) (A B C Q : T → Type 0) → ((k : T) → A k → B k → C k → Q k) → IfOk r A → IfOk r B → IfOk r C → IfOk r Q
of_three (Ok k) A B C Q all a b c = all k a b c
of_three (Err e) A B C Q all a b c = tt

pub returns-in-Ok-clause-found : goal.returns-in-Ok-clause-found
returns-in-Ok-clause-found g c =
    let conn = c.in-Ok.conn in
    of_three c.over.result _ _ _ _ (λ k sound same up is_up xs held.
    let was = up is_up in
    let opened = c.in-Ok.ensures.opened was.0 in
    let at = finds_records c.args.files conn xs (c.in-Ok.ensures.found was.0) held in
    let here = opened_holds (file_state conn) held.trees xs opened.0 opened.1 at held.table in
    (sound is_up (inr here.has.table), same is_up xs here)) c.over.ensures.sound c.over.ensures.same c.over.ensures.up
