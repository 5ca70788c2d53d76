use Rattle.dali_standing.proofs.{Moves.start_stands, Settling.settled_start}
use Rattle.dali_standing.proofs.standing.Standing.new.Goals as goal

pub invariant_of-result : goal.invariant_of-result
invariant_of-result c = rw (c.in_ok-seats.ensures.ok, c.in-Ok.ensures.ok, c.new-2.ensures, c.blocks-2.ensures.value)
    (settled_start c.args.plan.now c.args.queue)

pub returns-clause-ok : goal.returns-clause-ok
returns-clause-ok c = rw (c.in_ok-seats.ensures.ok, c.in-Ok.ensures.ok, c.new-2.ensures, c.blocks-2.ensures.value, c.in_ok-fitted.ensures.ok)
    (start_stands c.args.plan.now c.args.queue)
