use Rattle.std.proofs.Common.{refl}
use Rattle.dali_standing.proofs.Done.{offer_done}
use Rattle.dali_standing.proofs.standing.Standing.offer.Goals as goal

pub invariant_of-self : goal.invariant_of-self
invariant_of-self c =
    let put = rw c.unwrap.ensures at c.offer.ensures.put in
    (offer_done _ _ c.args.c c.args.frame _ c.self.view_is c.self.invariant refl c.requires.up c.requires.arc put).settled
