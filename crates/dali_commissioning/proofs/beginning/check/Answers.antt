use Rattle.std.proofs.lemmas.Result.{err_from_is_err_and}
use Rattle.dali_commissioning.proofs.Ran.{same_grows}
use Rattle.dali_commissioning.proofs.beginning.check.Goals as goal

pub returns-in_err-has_unaddressed-clause-left : goal.returns-in_err-has_unaddressed-clause-left
returns-in_err-has_unaddressed-clause-left g c =
    let p = err_from_is_err_and c.from_residual-in_err-has_unaddressed.result c.from_residual-in_err-has_unaddressed.ensures.1 in
    rw p.1 (same_grows g.K.Keep.is_up g.K.Keep.is_sound g.K.Keep.holds _ _ c.in_ok-kept.ensures.read.same)
