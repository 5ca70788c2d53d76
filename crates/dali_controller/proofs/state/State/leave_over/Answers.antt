use Rattle.std.proofs.Common.{None, sym, ◌∙◌, subst}
use Rattle.dali_controller.{specs.{Moments.IsFirstFree, States.machine_with, declared.way.Way.TheVariants.{Fresh, Surveying}}, proofs.Beginnings.ungiven_moment}
use Rattle.dali_controller.proofs.Beginnings.{none_drawn}
use Rattle.dali_controller.proofs.state.State.leave_over.Goals as goal

pub returns-in-Fresh : goal.returns-in-Fresh
returns-in-Fresh c =
    ungiven_moment (machine_with c.args.self.now c.args.kept.now) c.args.number Fresh _ _ c.requires.heard c.requires.ungiven
    (sym c.way.ensures ∙ c.in-Fresh.is) c.close.ensures

pub returns-in-Surveying : goal.returns-in-Surveying
returns-in-Surveying c =
    let w = machine_with c.args.self.now c.args.kept.now in
    let surveying = sym c.way.ensures ∙ c.in-Surveying.is in
    let none = subst (λ y. IsFirstFree y c.args.kept.now c.args.self.now.heard None) surveying c.requires.none in
    ungiven_moment w c.args.number Surveying _ _ c.requires.heard c.requires.ungiven surveying (rw (none_drawn w none) c.full.ensures)
