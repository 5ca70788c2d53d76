use Rattle.std.proofs.{Common.{◌≡◌, arith, inl}, lemmas.Bool.Decides.nat_tests}
use Rattle.dali_controller.{specs.States.machine_with, proofs.{Beginnings.goes_on_moment, Courses.stays_moment, Settling.{contradicts_by_random, halts}}}
use Rattle.dali_controller.proofs.Settling.{enrols, settled_between}
use Rattle.dali_controller.proofs.state.State.settle.Goals as goal

pub returns-in-Some-clause-moment : goal.returns-in-Some-clause-moment
returns-in-Some-clause-moment c =
    let w = machine_with c.args.self.now c.args.kept.now in
    let same : c.in-Some.enrolled ≡ c.args.random = grind (arith, nat_tests) in
    goes_on_moment w _ _
    (settled_between w c.args.short c.in-Some.enrolled c.args.random c.requires c.in-Some.ensures.value same) c.requires.next c.go_on.ensures

pub returns-in-Some-2-clause-moment : goal.returns-in-Some-2-clause-moment
returns-in-Some-2-clause-moment c =
    let other : c.in-Some.enrolled ≡ c.args.random → ⊥ = grind (arith, nat_tests) in
    stays_moment _ _ _ (rw c.halt.ensures.order tt) c.halt.ensures.state
    (halts (machine_with c.args.self.now c.args.kept.now) c.args.short c.args.random _ _ c.requires (inl (c.in-Some.enrolled, c.in-Some.ensures.value, other))
    c.halt.ensures.order c.halt.ensures.state) c.halt.ensures.whole

pub returns-in-Some-enrolled_for-clause-moment : goal.returns-in-Some-enrolled_for-clause-moment
returns-in-Some-enrolled_for-clause-moment c =
    let w = machine_with c.args.self.now c.args.kept.now in
    let halt = c.halt-in-Some-enrolled_for.ensures in
    let conflict = contradicts_by_random w.kept.enrolled c.args.short _ c.args.random c.in-None.ensures.value c.in-Some-enrolled_for.ensures.value in
    stays_moment _ _ _ (rw halt.order tt) halt.state (halts w c.args.short c.args.random _ _ c.requires conflict halt.order halt.state) halt.whole

pub returns-in-None-enrolled_for-clause-moment : goal.returns-in-None-enrolled_for-clause-moment
returns-in-None-enrolled_for-clause-moment c =
    stays_moment _ _ _ (rw c.commit.ensures.order tt) c.commit.ensures.state
    (enrols (machine_with c.args.self.now c.args.kept.now) c.args.short c.args.random _ _ c.requires c.in-None.ensures.value
    c.in-None-enrolled_for.ensures.value c.commit.ensures.order c.commit.ensures.state) c.commit.ensures.whole

pub returns-in-Some-enrolled_for-clause-found : goal.returns-in-Some-enrolled_for-clause-found
returns-in-Some-enrolled_for-clause-found c =
    rw c.halt-in-Some-enrolled_for.ensures.order
    (contradicts_by_random c.args.kept.now.enrolled c.args.short _ c.args.random c.in-None.ensures.value c.in-Some-enrolled_for.ensures.value)
