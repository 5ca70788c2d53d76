use Rattle.std.proofs.Common.{◌∙◌}
use Rattle.dali_search.specs.declared.step.Step.TheVariants.{Again, Found, Nobody}
use Rattle.dali_controller.proofs.{Beginnings.probed_state, Courses.answered_is}
use Rattle.dali_controller.proofs.state.State.probed.Goals as goal

pub returns-in-Again : goal.returns-in-Again
returns-in-Again c =
    let x = c.in-Searching.search in
    let a = c.answer.ensures in
    probed_state c.args.self.now c.args.kept.now x c.answer.new.self c.requires.0 c.args.heard c.is_yes.result Again _ _ c.requires.1 c.in-Searching.is
    c.is_yes.ensures (λ running. answered_is x c.answer.new.self c.is_yes.result c.answer.result running a.asked a.step a.next a.last a.kept)
    (a.kept ∙ c.in-Again.is) (λ running e. a.nobody running (c.in-Again.is ∙ e)) c.probe.ensures

pub returns-in-Found : goal.returns-in-Found
returns-in-Found c =
    let x = c.in-Searching.search in
    let a = c.answer.ensures in
    probed_state c.args.self.now c.args.kept.now x c.answer.new.self c.requires.0 c.args.heard c.is_yes.result
    (Found c.in-Found.found) _ _ c.requires.1 c.in-Searching.is
    c.is_yes.ensures (λ running. answered_is x c.answer.new.self c.is_yes.result c.answer.result running a.asked a.step a.next a.last a.kept)
    (a.kept ∙ c.in-Found.is) (λ running e. a.nobody running (c.in-Found.is ∙ e)) c.visit.ensures

pub returns-in-Nobody : goal.returns-in-Nobody
returns-in-Nobody c =
    let x = c.in-Searching.search in
    let a = c.answer.ensures in
    probed_state c.args.self.now c.args.kept.now x c.answer.new.self c.requires.0 c.args.heard c.is_yes.result Nobody _ _ c.requires.1 c.in-Searching.is
    c.is_yes.ensures (λ running. answered_is x c.answer.new.self c.is_yes.result c.answer.result running a.asked a.step a.next a.last a.kept)
    (a.kept ∙ c.in-Nobody.is) (λ running e. a.nobody running (c.in-Nobody.is ∙ e)) c.close.ensures
