use Rattle.std.proofs.Common.{refl}
use Rattle.dali_standing.proofs.Done.{up_settles, up_moves}
use Rattle.dali_standing.proofs.standing.Standing.up.Goals as goal

pub invariant_of-self : goal.invariant_of-self
invariant_of-self c =
    up_settles _ _ c.args.c c.args.copy.now c.requires.agrees.0 _ _ c.self.view_is c.self.invariant refl c.requires.known c.requires.down c.requires.agrees.1
    c.index_mut-seat.ensures.value c.up.ensures

pub returns : goal.returns
returns c =
    up_moves _ _ c.args.c c.args.copy.now _ _ c.self.view_is c.self.invariant refl c.requires.known c.requires.down
    c.index_mut-seat.ensures.value c.up.ensures
