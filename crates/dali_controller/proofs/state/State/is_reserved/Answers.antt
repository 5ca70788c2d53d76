use Rattle.dali_controller.proofs.Sending.{reserved_is, reserved_none}
use Rattle.dali_controller.proofs.state.State.is_reserved.Goals as goal

pub returns-in-Some-clause-has : goal.returns-in-Some-clause-has
returns-in-Some-clause-has c =
    rw c.eq.ensures (reserved_is c.args.kept.now.reserved c.args.address c.in-Some.reserved c.args.number c.in-Some.ensures.kept.reserved.address_once
    c.in-Some.ensures.value)

pub returns-in-None-clause-has : goal.returns-in-None-clause-has
returns-in-None-clause-has c = reserved_none c.args.kept.now.reserved c.args.address c.args.number c.in-None.ensures.value
