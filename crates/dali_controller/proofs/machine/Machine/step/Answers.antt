use Rattle.std.proofs.Common.{refl}
use Rattle.dali_controller.{specs.{States.machine_with, Steps.IsBefore}, proofs.Keeping.{kept_may, before_is, given_answered, given_begins, given_followed}}
use Rattle.dali_controller.proofs.machine.Machine.step.Goals as goal

pub keep-requires : goal.keep-requires
keep-requires c = rw c.kept_by-added.ensures (kept_may c.self.inside.state c.self.inside.kept c.args.input c.self.invariant)

pub step-requires : goal.step-requires
step-requires c = (
  c.self.inside.kept,
  before_is c.self.inside.state c.self.inside.kept c.keep.new.kept c.view.result c.kept_by-added.result c.args.input c.self.invariant c.kept_by-added.ensures
      c.keep.ensures c.view.ensures.value,
)

before : (c : goal.After-step) → IsBefore c.self.inside.state c.self.inside.kept c.args.input c.view.result
before c = before_is c.self.inside.state c.self.inside.kept c.keep.new.kept c.view.result c.kept_by-added.result c.args.input c.self.invariant
    c.kept_by-added.ensures c.keep.ensures c.view.ensures.value

pub returns-clause-order : goal.returns-clause-order
returns-clause-order c = rw (← c.self.view_is) (given_answered c.step.result (machine_with c.self.inside.state c.self.inside.kept) c.args.input
    (c.step.ensures.given c.self.inside.kept (before c)))

pub returns-clause-state : goal.returns-clause-state
returns-clause-state c = rw (← c.self.view_is, ← c.view.ensures.value) (c.step.ensures.state c.self.inside.kept (before c))

pub returns-clause-begins : goal.returns-clause-begins
returns-clause-begins c =
    given_begins c.step.result (machine_with c.self.inside.state c.self.inside.kept) c.args.input _ (machine_with c.step.new.self c.view.result)
    (c.step.ensures.given c.self.inside.kept (before c)) (c.step.ensures.state c.self.inside.kept (before c)) refl

pub returns-clause-followed : goal.returns-clause-followed
returns-clause-followed c =
    rw (← c.self.view_is) (given_followed c.step.result (machine_with c.self.inside.state c.self.inside.kept) c.args.input
    (c.step.ensures.given c.self.inside.kept (before c)))
