use Rattle.std.proofs.Common.{sym, ◌∙◌}
use Rattle.dali_arbiter.proofs.FirstList.{some_best, front_some, none_other, none_rest, same_other, same_rest, both_other, both_rest}
use Rattle.dali_arbiter.proofs.waiting.take_collision.Goals as goal

pub unwrap-priority-requires : goal.unwrap-priority-requires
unwrap-priority-requires c = rw c.best.ensures (some_best c.args.waiting.now.lists 1 c.requires)

pub unwrap-first-requires : goal.unwrap-first-requires
unwrap-first-requires c = rw c.pop.ensures.first (front_some c.args.waiting.now.lists _ (sym c.best.ensures ∙ c.unwrap-priority.ensures))

pub returns-in_err-second-clause-other : goal.returns-in_err-second-clause-other
returns-in_err-second-clause-other c =
    c.from_residual.ensures ∙ none_other c.args.waiting.now _ _ _ _ _ _ c.best.ensures c.unwrap-priority.ensures c.pop.ensures.first c.pop.ensures.rest
    c.unwrap-first.ensures c.front.ensures
    c.in_err-second.was

pub returns-in_err-second-clause-rest : goal.returns-in_err-second-clause-rest
returns-in_err-second-clause-rest c =
    none_rest c.args.waiting.now _ _ _ _ _ _ c.best.ensures c.unwrap-priority.ensures c.pop.ensures.first c.pop.ensures.rest c.unwrap-first.ensures
    c.front.ensures c.in_err-second.was

pub returns-then-second-first-clause-other : goal.returns-then-second-first-clause-other
returns-then-second-first-clause-other c =
    same_other c.args.waiting.now _ _ _ _ _ _ c.best.ensures c.unwrap-priority.ensures c.pop.ensures.first c.pop.ensures.rest c.unwrap-first.ensures
    c.front.ensures _
    c.in_ok-second.was c.if-second-first.true

pub returns-then-second-first-clause-rest : goal.returns-then-second-first-clause-rest
returns-then-second-first-clause-rest c =
    same_rest c.args.waiting.now _ _ _ _ _ _ c.best.ensures c.unwrap-priority.ensures c.pop.ensures.first c.pop.ensures.rest c.unwrap-first.ensures
    c.front.ensures _
    c.in_ok-second.was c.if-second-first.true

pub returns-clause-other : goal.returns-clause-other
returns-clause-other c =
    both_other c.args.waiting.now _ _ _ _ _ _ c.best.ensures c.unwrap-priority.ensures c.pop.ensures.first c.pop.ensures.rest c.unwrap-first.ensures
    c.front.ensures _
    c.in_ok-second.was c.if-second-first.false

pub returns-clause-rest : goal.returns-clause-rest
returns-clause-rest c =
    both_rest c.args.waiting.now _ _ _ _ _ _ c.best.ensures c.unwrap-priority.ensures c.pop.ensures.first c.pop.ensures.rest c.unwrap-first.ensures
    c.front.ensures _
    c.in_ok-second.was c.if-second-first.false _ c.pop-2.ensures.rest
