use Rattle.std.proofs.Common.{ap}
use Rattle.dali_controller.{specs.Next.begins_at, specs.States.machine_with, proofs.Beginnings.goes_on_moment, proofs.Beginnings.spelled_between}
use Rattle.dali_controller.proofs.state.State.untold.Goals as goal

pub returns-clause-moment : goal.returns-clause-moment
returns-clause-moment c =
    let w = machine_with c.args.self.now c.args.kept.now in
    goes_on_moment w _ _ (spelled_between w c.args.short c.args.number c.requires) (ap (begins_at w) c.requires.stage) c.go_on.ensures
