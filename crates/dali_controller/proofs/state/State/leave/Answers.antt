use Rattle.std.proofs.Common.{sym, ◌∙◌}
use Rattle.dali_controller.{specs.{States.machine_with, declared.way.Way.TheVariants.{Fresh, Surveying}}, proofs.Beginnings.ungiven_moment}
use Rattle.dali_controller.proofs.state.State.leave.Goals as goal

pub returns-in-Fresh : goal.returns-in-Fresh
returns-in-Fresh c =
    ungiven_moment (machine_with c.args.self.now c.args.kept.now) c.args.number Fresh _ _ c.requires.heard c.requires.ungiven
    (sym c.way.ensures ∙ c.in-Fresh.is) c.close.ensures

pub returns-in-Surveying : goal.returns-in-Surveying
returns-in-Surveying c =
    ungiven_moment (machine_with c.args.self.now c.args.kept.now) c.args.number Surveying _ _ c.requires.heard c.requires.ungiven
    (sym c.way.ensures ∙ c.in-Surveying.is) c.ungiven.ensures
