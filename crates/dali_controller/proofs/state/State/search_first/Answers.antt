use Rattle.std.proofs.Common.{sym, ◌∙◌}
use Rattle.dali_controller.{specs.{States.machine_with, declared.way.Way.TheVariants.{Fresh, Surveying}}, proofs.Beginnings.opened_moment}
use Rattle.dali_controller.proofs.state.State.search_first.Goals as goal

pub returns-in-Fresh : goal.returns-in-Fresh
returns-in-Fresh c =
    let h = c.requires.heard in
    opened_moment (machine_with c.args.self.now c.args.kept.now) h.0 Fresh _ _ h.1 h.2 (sym c.way.ensures ∙ c.in-Fresh.is) c.search_anew.ensures

pub returns-in-Surveying : goal.returns-in-Surveying
returns-in-Surveying c =
    let h = c.requires.heard in
    opened_moment (machine_with c.args.self.now c.args.kept.now) h.0 Surveying _ _ h.1 h.2 (sym c.way.ensures ∙ c.in-Surveying.is) c.hunt_first.ensures
