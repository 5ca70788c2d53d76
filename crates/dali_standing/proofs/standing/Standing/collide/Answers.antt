use Rattle.std.proofs.Common.{rules, ◌≡◌, ◌<◌, ◌∙◌, length, subst, sym, Some, None}
use Rattle.dali_arbiter.specs.Arbiter.{collision}
use Rattle.dali_standing.proofs.Done.{sender_there, sender_loses, rival_there, rival_loses, collide_done, alone_done}
use Rattle.dali_standing.proofs.standing.Standing.collide.Goals as goal

pub index_mut-seat-requires : goal.index_mut-seat-requires
index_mut-seat-requires c =
    let len : c.self.inside.seats.len ≡ length c.self.inside.seats.items = search rules in
    subst (λ n. c.args.request.sender < n) (sym len) (sender_there _ _ c.args.request c.self.view_is c.self.invariant c.requires.next)

pub lose-requires-clause-put : goal.lose-requires-clause-put
lose-requires-clause-put c = sender_loses _ _ c.args.request _ c.self.view_is c.self.invariant c.requires.next c.index_mut-seat.ensures.value

pub index_mut-seat-requires-in-Some : goal.index_mut-seat-requires-in-Some
index_mut-seat-requires-in-Some c =
    let len : c.self.inside.seats.len ≡ length c.self.inside.seats.items = search rules in
    let both : collision c.self.inside.arbiter.lists ≡ Some c.in-Some.second = sym c.collided-other.ensures.other ∙ c.in-Some.is in
    subst (λ n. c.in-Some.second.sender < n) (sym len) (rival_there _ _ c.args.request c.in-Some.second c.self.view_is c.self.invariant c.requires.next both)

pub lose-requires-in-Some-clause-put : goal.lose-requires-in-Some-clause-put
lose-requires-in-Some-clause-put c =
    let both : collision c.self.inside.arbiter.lists ≡ Some c.in-Some.second = sym c.collided-other.ensures.other ∙ c.in-Some.is in
    rival_loses _ _ c.args.request c.in-Some.second _ c.lose.new.seat _ c.self.view_is c.self.invariant c.requires.next both
    c.index_mut-seat.ensures.value c.lose.ensures c.index_mut-seat-in-Some.ensures.value

pub invariant_of-self : goal.invariant_of-self
invariant_of-self c =
    let both : collision c.self.inside.arbiter.lists ≡ Some c.in-Some.second = sym c.collided-other.ensures.other ∙ c.in-Some.is in
    (collide_done _ _ c.args.request c.in-Some.second _ c.lose.new.seat _ _ _ c.self.view_is c.self.invariant c.requires.next both
    c.index_mut-seat.ensures.value c.lose.ensures c.index_mut-seat-in-Some.ensures.value c.lose-in-Some.ensures c.collided-other.ensures.bus).settled

pub invariant_of-self-in-None : goal.invariant_of-self-in-None
invariant_of-self-in-None c =
    let none : collision c.self.inside.arbiter.lists ≡ None = sym c.collided-other.ensures.other ∙ c.in-None.is in
    (alone_done _ _ c.args.request _ _ _ _ c.self.view_is c.self.invariant c.requires.next c.requires.draws none
    c.index_mut-seat.ensures.value (rw c.requires.read at c.take.ensures.state) c.lose.ensures c.collided-other.ensures.bus).settled

pub returns-in-Some-clause-moves : goal.returns-in-Some-clause-moves
returns-in-Some-clause-moves c =
    let both : collision c.self.inside.arbiter.lists ≡ Some c.in-Some.second = sym c.collided-other.ensures.other ∙ c.in-Some.is in
    rw c.in-Some.is
    (collide_done _ _ c.args.request c.in-Some.second _ c.lose.new.seat _ _ _ c.self.view_is c.self.invariant c.requires.next both
    c.index_mut-seat.ensures.value c.lose.ensures c.index_mut-seat-in-Some.ensures.value c.lose-in-Some.ensures c.collided-other.ensures.bus).moves

pub returns-in-None-clause-moves : goal.returns-in-None-clause-moves
returns-in-None-clause-moves c =
    let none : collision c.self.inside.arbiter.lists ≡ None = sym c.collided-other.ensures.other ∙ c.in-None.is in
    rw c.in-None.is
    (alone_done _ _ c.args.request _ _ _ _ c.self.view_is c.self.invariant c.requires.next c.requires.draws none
    c.index_mut-seat.ensures.value (rw c.requires.read at c.take.ensures.state) c.lose.ensures c.collided-other.ensures.bus).moves
