use Rattle.std.proofs.Common.{◌∙◌, sym}
use Rattle.dali_standing.proofs.Done.{lapse_done}
use Rattle.dali_standing.proofs.standing.Standing.lapse.Goals as goal

pub invariant_of-self : goal.invariant_of-self
invariant_of-self c =
    (lapse_done _ _ c.in-Some.c _ _ _ c.self.view_is c.self.invariant (sym c.lapse-owner.ensures.owner ∙ c.in-Some.is)
    c.index_mut-seat.ensures.value c.lapse.ensures c.lapse-owner.ensures.bus).settled

pub returns-in-Some : goal.returns-in-Some
returns-in-Some c =
    (lapse_done _ _ c.in-Some.c _ _ _ c.self.view_is c.self.invariant (sym c.lapse-owner.ensures.owner ∙ c.in-Some.is)
    c.index_mut-seat.ensures.value c.lapse.ensures c.lapse-owner.ensures.bus).moves
