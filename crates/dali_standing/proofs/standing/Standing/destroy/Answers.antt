use Rattle.std.proofs.Common.{rules, ◌≡◌, ◌<◌, length, subst, sym}
use Rattle.dali_standing.proofs.Done.{sender_there, sender_loses, destroy_done}
use Rattle.dali_standing.proofs.standing.Standing.destroy.Goals as goal

pub index_mut-seat-requires : goal.index_mut-seat-requires
index_mut-seat-requires c =
    let len : c.self.inside.seats.len ≡ length c.self.inside.seats.items = search rules in
    subst (λ n. c.args.request.sender < n) (sym len) (sender_there _ _ c.args.request c.self.view_is c.self.invariant c.requires.next)

pub lose-requires-clause-put : goal.lose-requires-clause-put
lose-requires-clause-put c = sender_loses _ _ c.args.request _ c.self.view_is c.self.invariant c.requires.next c.index_mut-seat.ensures.value

pub invariant_of-self : goal.invariant_of-self
invariant_of-self c =
    (destroy_done _ _ c.args.request c.args.set _ _ _ _ c.self.view_is c.self.invariant c.requires.next c.requires.draws
    c.index_mut-seat.ensures.value (rw c.requires.read at c.take.ensures.state) c.lose.ensures c.destroyed.ensures).settled

pub returns : goal.returns
returns c =
    (destroy_done _ _ c.args.request c.args.set _ _ _ _ c.self.view_is c.self.invariant c.requires.next c.requires.draws
    c.index_mut-seat.ensures.value (rw c.requires.read at c.take.ensures.state) c.lose.ensures c.destroyed.ensures).moves
