use Rattle.std.proofs.Common.{Bool, List, ℕ, inr, subst}
use Rattle.dali_replacement.specs.declared.swap.Step.{Step}
use Rattle.dali_commission_stores.specs.{Settled.IsSettled, Settling.GoesOn}
use Rattle.dali_commission_stores.proofs.Steps.{not_stopped}
use Rattle.dali_commission_stores.proofs.settling.exchange.Goals as goal

pub returns-else-branch-clause-left : goal.returns-else-branch-clause-left
returns-else-branch-clause-left g c =
    inr (inr (
      c.goes_on-announced.new.stores,
      subst (λ (n : ℕ). (steps : List Step)
          × GoesOn g.F.Stores.made c.args.swap.now 0 n steps c.args.stores.now c.goes_on-announced.new.stores) c.count.ensures.value
          (not_stopped _ _ _ c.in_ok-or_stopped.ensures c.goes_on-announced.ensures.goes_on),
      inr (subst (λ (b : Bool). IsSettled g.F.Stores.made g.F.Stores.saw c.args.swap.now c.goes_on-announced.new.stores c.settle.new.stores b)
          c.if-branch.false c.in_ok-settle.ensures.settled),
    ))
