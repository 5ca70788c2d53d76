use Rattle.std.proofs.Common.{◌≡◌, ◌∙◌, sym, ap, Err}
use Rattle.std.proofs.lemmas.Result.{err_from_is_err_and}
use Rattle.dali_commissioning.proofs.Looked.{not_surveyed, not_asked_beside}
use Rattle.dali_commissioning.proofs.newcomers.look_for_newcomers.Goals as goal

pub returns-in_err-has_others-in-Some-clause-failed : goal.returns-in_err-has_others-in-Some-clause-failed
returns-in_err-has_others-in-Some-clause-failed g c =
    let p = err_from_is_err_and c.from_residual.result c.from_residual.ensures.1 in
    rw p.1 (rw p.2 (not_asked_beside _ _ _ _ _ _ c.in_err-has_others-in-Some.ensures.failed
    (λ is. c.has_others.ensures.lost (c.in_err-has_others-in-Some.was ∙ ap Err is)) _ (
      c.over-looking.result,
      c.commission.new.keep,
      c.over-looking.ensures.keep,
      sym c.wanted.ensures ∙ c.in-Some.is,
      c.in-Err.ensures.left_rules,
    )))

pub returns-in-None-clause-failed : goal.returns-in-None-clause-failed
returns-in-None-clause-failed g c =
    not_surveyed _ _ _ _ c.in-Err.ensures.failed (λ is. c.commission.ensures.none_lost (c.in-Err.is ∙ ap Err is)) (
      c.over-looking.result,
      c.commission.new.keep,
      c.over-looking.ensures.keep,
      sym c.wanted.ensures ∙ c.in-None.is,
      c.in-Err.ensures.left_rules,
    )
