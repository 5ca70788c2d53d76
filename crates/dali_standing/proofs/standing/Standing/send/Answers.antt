use Rattle.std.proofs.Common.{rules, ◌≡◌, ◌<◌, length, subst, sym, refl}
use Rattle.dali_standing.proofs.Done.{sender_there, sender_runs, frame_follows, sender_hears, sender_goes_on, may_hear, send_done}
use Rattle.dali_standing.proofs.standing.Standing.send.Goals as goal

pub index_mut-seat-requires : goal.index_mut-seat-requires
index_mut-seat-requires c =
    let len : c.self.inside.seats.len ≡ length c.self.inside.seats.items = search rules in
    subst (λ n. c.args.request.sender < n) (sym len) (sender_there _ _ c.args.request c.self.view_is c.self.invariant c.requires.next)

pub reached-reached-requires-clause-lawful : goal.reached-reached-requires-clause-lawful
reached-reached-requires-clause-lawful c =
    let running = sender_runs _ _ c.args.request _ _ c.owns-owned.result c.self.view_is c.self.invariant c.requires.next
    c.index_mut-seat.ensures.value c.owns-owned.ensures refl in
    frame_follows _ _ c.args.request _ c.self.view_is c.self.invariant c.requires.next running

pub hear-requires-clause-hearing : goal.hear-requires-clause-hearing
hear-requires-clause-hearing c =
    let running = sender_runs _ _ c.args.request _ _ c.owns-owned.result c.self.view_is c.self.invariant c.requires.next
    c.index_mut-seat.ensures.value c.owns-owned.ensures refl in
    sender_hears _ _ c.args.request _ c.heard-heard.result _ _ c.self.view_is c.self.invariant c.requires.next
    c.index_mut-seat.ensures.value running c.reached-reached.ensures

pub invariant_of-self : goal.invariant_of-self
invariant_of-self c =
    let running = sender_runs _ _ c.args.request _ _ c.owns-owned.result c.self.view_is c.self.invariant c.requires.next
    c.index_mut-seat.ensures.value c.owns-owned.ensures refl in
    (send_done _ _ c.args.request c.heard-heard.result _ _ _ _ _ c.reached-reached.result c.goes_on-more.result c.self.view_is c.self.invariant
    c.requires.next c.requires.draws
    (may_hear _ c.args.trouble c.take-plain.result c.heard-heard.result (rw c.requires.read at c.take-plain.ensures.answer) c.heard-heard.ensures)
    c.index_mut-seat.ensures.value (rw c.requires.read at c.take-plain.ensures.state) running c.reached-reached.ensures c.hear.ensures
    c.goes_on-more.ensures c.sent.ensures).settled

pub returns-clause-moves : goal.returns-clause-moves
returns-clause-moves c =
    let running = sender_runs _ _ c.args.request _ _ c.owns-owned.result c.self.view_is c.self.invariant c.requires.next
    c.index_mut-seat.ensures.value c.owns-owned.ensures refl in
    (send_done _ _ c.args.request c.heard-heard.result _ _ _ _ _ c.reached-reached.result c.goes_on-more.result c.self.view_is c.self.invariant
    c.requires.next c.requires.draws
    (may_hear _ c.args.trouble c.take-plain.result c.heard-heard.result (rw c.requires.read at c.take-plain.ensures.answer) c.heard-heard.ensures)
    c.index_mut-seat.ensures.value (rw c.requires.read at c.take-plain.ensures.state) running c.reached-reached.ensures c.hear.ensures
    c.goes_on-more.ensures c.sent.ensures).moves

pub returns-clause-goes_on : goal.returns-clause-goes_on
returns-clause-goes_on c = sender_goes_on _ _ c.args.request c.self.view_is c.self.invariant c.requires.next
