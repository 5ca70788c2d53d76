use Rattle.std.proofs.Common.{refl}
use Rattle.dali_standing.proofs.Done.{down_done}
use Rattle.dali_standing.proofs.standing.Standing.down.Goals as goal

pub invariant_of-self : goal.invariant_of-self
invariant_of-self c =
    (down_done _ _ c.args.c _ _ _ c.self.view_is c.self.invariant refl c.requires
    c.index_mut-seat.ensures.value c.down.ensures c.silence.ensures).settled

pub returns : goal.returns
returns c =
    (down_done _ _ c.args.c _ _ _ c.self.view_is c.self.invariant refl c.requires
    c.index_mut-seat.ensures.value c.down.ensures c.silence.ensures).moves
