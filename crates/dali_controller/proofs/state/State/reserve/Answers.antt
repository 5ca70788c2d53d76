use Rattle.dali_controller.{specs.Legs.way_on, specs.States.machine_with, proofs.Courses.stays_moment}
use Rattle.dali_controller.proofs.Leaving.{free_searching, reservable, reserves, unfree_left}
use Rattle.dali_controller.proofs.state.State.reserve.Goals as goal

pub commit-requires-clause-fits : goal.commit-requires-clause-fits
commit-requires-clause-fits c =
    (reservable (machine_with c.args.self.now c.args.kept.now) c.args.number c.in-Some.short c.value.result c.requires.heard c.requires.free c.in-Some.ensures
    c.value.ensures).fits

pub commit-requires-clause-may : goal.commit-requires-clause-may
commit-requires-clause-may c =
    (reservable (machine_with c.args.self.now c.args.kept.now) c.args.number c.in-Some.short c.value.result c.requires.heard c.requires.free c.in-Some.ensures
    c.value.ensures).may

pub leave_over-requires-clause-opened : goal.leave_over-requires-clause-opened
leave_over-requires-clause-opened c = free_searching (machine_with c.args.self.now c.args.kept.now) c.args.number c.requires.heard c.requires.free

pub leave_over-requires-clause-ungiven : goal.leave_over-requires-clause-ungiven
leave_over-requires-clause-ungiven c =
    unfree_left (way_on c.args.self.now.leg) (machine_with c.args.self.now c.args.kept.now)
    c.args.number c.requires.kept.reserved c.requires.free c.in-None.ensures

pub returns-in-Some : goal.returns-in-Some
returns-in-Some c =
    stays_moment _ _ _ (rw c.commit.ensures.order tt) c.commit.ensures.state
    (reserves (machine_with c.args.self.now c.args.kept.now) c.args.number c.in-Some.short c.value.result _ _ c.requires.kept.reserved c.requires.heard
    c.requires.free c.in-Some.ensures c.value.ensures c.commit.ensures.order c.commit.ensures.state) c.commit.ensures.whole
