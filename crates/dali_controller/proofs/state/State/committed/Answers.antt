use Rattle.std.proofs.Common.{ap, Some, ◌∙◌}
use Rattle.dali_script.specs.declared.orders.Order.TheVariants.{Commit}
use Rattle.dali_controller.{specs.States.machine_with, proofs.Beginnings.reserved_moment, proofs.Beginnings.released_moment}
use Rattle.dali_controller.proofs.state.State.committed.Goals as goal

pub visit-requires-clause-drawn : goal.visit-requires-clause-drawn
visit-requires-clause-drawn c = (c.requires.reserved c.in-Reserve.field-0 c.in-Reserve.number c.in-Reserve.is).0

pub visit-requires-clause-may : goal.visit-requires-clause-may
visit-requires-clause-may c = (c.requires.reserved c.in-Reserve.field-0 c.in-Reserve.number c.in-Reserve.is).1

pub returns-in-Reserve-clause-moment : goal.returns-in-Reserve-clause-moment
returns-in-Reserve-clause-moment c =
    reserved_moment (machine_with c.args.self.now c.args.kept.now) c.in-Reserve.field-0 c.in-Reserve.number _ _ c.requires.between c.requires.free
    (c.requires.ordered ∙ ap (λ x. Some (Commit x)) c.in-Reserve.is) c.visit.ensures

pub returns-in-Release-clause-moment : goal.returns-in-Release-clause-moment
returns-in-Release-clause-moment c =
    released_moment (machine_with c.args.self.now c.args.kept.now) _ _ _ _ c.requires.between c.requires.free
    (c.requires.ordered ∙ ap (λ x. Some (Commit x)) c.in-Release.is) c.go_on.ensures
