use Rattle.std.proofs.lemmas.Result.{err_from_is_err_and}
use Rattle.dali_commissioning.proofs.Ran.{read_grows}
use Rattle.dali_commissioning.proofs.beginning.begin.Goals as goal

pub returns-in_err-pass-clause-left : goal.returns-in_err-pass-clause-left
returns-in_err-pass-clause-left g c =
    let p = err_from_is_err_and c.from_residual-in_err-pass.result c.from_residual-in_err-pass.ensures.1 in
    rw p.1 (read_grows g.K.Keep.is_up g.K.Keep.is_sound g.K.Keep.holds _ _ _ _ _ c.in_ok-kept.ensures.read c.commission.ensures.stays
    c.in_err-pass.ensures.left)
