use Rattle.std.proofs.Common.{sym, subst}
use Rattle.dali_events.specs.Allowed.{IsDue}
use Rattle.dali_standing.{specs.Seats.Seat, proofs.Acts.seat_acted}
use Rattle.dali_standing.proofs.seat.Seat.act.Goals as goal

pub invariant_of-self : goal.invariant_of-self
invariant_of-self c =
    let s = c.self.inside in
    rw (c.stepped-order.ensures.state, c.note.ensures)
    (seat_acted s.place s.outstanding s.finding s.told s.reached c.args.input c.stepped-order.result c.self.invariant
    (subst (λ (p : Seat). IsDue p.controller c.args.input) (sym c.self.view_is) c.requires.due) c.stepped-order.ensures.answer)
