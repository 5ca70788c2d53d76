use Rattle.std.proofs.Common.{ap}
use Rattle.dali_controller.{specs.Next.begins_at, specs.States.machine_with, proofs.Beginnings.goes_on_moment, proofs.Beginnings.middle_between}
use Rattle.dali_controller.proofs.state.State.unheard.Goals as goal

pub returns : goal.returns
returns c =
    let w = machine_with c.args.self.now c.args.kept.now in
    let h = c.requires.heard in
    goes_on_moment w _ _ (middle_between w h.0 h.1 h.2) (ap (begins_at w) h.2.stage) c.go_on.ensures
