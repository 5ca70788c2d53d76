use Rattle.dali_c.proofs.Lists.{if_none}
use Rattle.dali_c.proofs.state.PlainState.read.Goals as goal

pub returns-in_err-leg-clause-none : goal.returns-in_err-leg-clause-none
returns-in_err-leg-clause-none c =
    if_none c.from_residual-in_err-leg.result
    (λ none. λ s spells. let some = c.in_err-leg.ensures.same s.leg spells.leg in cc)
