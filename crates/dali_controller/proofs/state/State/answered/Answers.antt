use Rattle.std.proofs.Common.{ap, sym, ◌∙◌}
use Rattle.dali_search.specs.Ascending.{ascended, leads_to}
use Rattle.dali_controller.{specs.Legs.ascent_on, specs.declared.leg.Leg.Leg, proofs.Beginnings.left_asks}
use Rattle.dali_controller.proofs.state.State.answered.Goals as goal

pub returns-in-Nobody : goal.returns-in-Nobody
returns-in-Nobody c =
    let a = c.in-Hunting.ascent in
    let running = ap (λ (l : Leg). leads_to (ascent_on l)) (sym c.in-Hunting.is) ∙ c.requires.running in
    left_asks c.args.self.now c.args.kept.now a c.answer.new.self c.args.heard c.args.sent c.args.left _ _ c.in-Hunting.is
    (c.answer.ensures.told running ∙ ap (ascended a) c.is_yes.ensures) (sym c.answer.ensures.step ∙ c.in-Nobody.is) c.nobody_left.ensures
