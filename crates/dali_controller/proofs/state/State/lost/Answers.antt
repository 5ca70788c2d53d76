use Rattle.std.proofs.{Common.{◌≡◌, ◌+◌, arith}, lemmas.Bool.Decides.nat_tests}
use Rattle.dali_controller.{specs.States.machine_with, proofs.{Courses.followed_lost, Steps.{lost_ended, lost_moment, waiting}}}
use Rattle.dali_controller.proofs.state.State.lost.Goals as goal

pub returns-then-self-eq-TRIES-clause-moment : goal.returns-then-self-eq-TRIES-clause-moment
returns-then-self-eq-TRIES-clause-moment c =
    let is : c.args.self.now.tries + 1 ≡ 8 = grind (arith, nat_tests) in
    let done = c.done.ensures in
    let next = lost_ended (machine_with c.args.self.now c.args.kept.now) c.new-self.result _ _ c.requires.whole c.requires.put c.new-self.ensures is done.order
    done.state in
    record { begins = rw done.order tt; course = rw done.order done.course; next = next; whole = done.whole }

pub begin-requires : goal.begin-requires
begin-requires c =
    let w = machine_with c.args.self.now c.args.kept.now in
    (waiting w w.last c.requires.put c.requires.whole).knows

pub returns-clause-moment : goal.returns-clause-moment
returns-clause-moment c =
    let more : c.args.self.now.tries + 1 ≡ 8 → ⊥ = grind (arith, nat_tests) in
    lost_moment (machine_with c.args.self.now c.args.kept.now) c.new-self.result _ _ c.requires.whole c.requires.put c.new-self.ensures more c.begin.ensures

pub returns-then-self-eq-TRIES-clause-followed : goal.returns-then-self-eq-TRIES-clause-followed
returns-then-self-eq-TRIES-clause-followed c = followed_lost (machine_with c.args.self.now c.args.kept.now) c.done.result c.requires.put

pub returns-clause-followed : goal.returns-clause-followed
returns-clause-followed c = followed_lost (machine_with c.args.self.now c.args.kept.now) c.begin.result c.requires.put
