use Rattle.std.proofs.Common.{refl, sym, subst₂}
use Rattle.dali_sqlite.specs.Files.{HoldRecords}
use Rattle.dali_sqlite.proofs.copy.open_copy.Goals as goal

pub returns-in-Ok-clause-found : goal.returns-in-Ok-clause-found
returns-in-Ok-clause-found c up xs held =
    let here = subst₂ (λ log db. HoldRecords (record { log = log; db = db }) xs) (sym c.in_ok-file.ensures.holds) (sym c.in_ok-file-2.ensures.holds) held in
    c.in-Ok.ensures.found up xs (c.in_ok-files.ensures.same refl xs here)
