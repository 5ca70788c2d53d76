use Rattle.std.proofs.Common.{◌∙◌, sym, ap, Some, None, not, ◌==◌, ◌||◌}
use Rattle.dali_controller.proofs.{Asked.anothers_none, Asked.anothers_some, Courses.number_is}
use Rattle.dali_controller.proofs.surveying.is_anothers.Goals as goal

pub returns-else-has : goal.returns-else-has
returns-else-has c =
    let k = c.args.kept.now in
    let is = number_is k.enrolled c.args.address (Some c.in-Some.enrolled) c.in-Some.ensures.kept.enrolled.address_once c.in-Some.ensures.value in
    c.ne.ensures ∙ sym (anothers_some k c.args.heard c.args.address c.args.random c.in-Some.enrolled is
    ∙ ap (λ b. b || not (c.in-Some.enrolled == c.args.random)) (sym c.has.ensures ∙ c.if-has.false))

pub returns-in-None : goal.returns-in-None
returns-in-None c =
    let k = c.args.kept.now in
    let is = number_is k.enrolled c.args.address None c.in-None.ensures.kept.enrolled.address_once c.in-None.ensures.value in
    c.has-in-None.ensures ∙ sym (anothers_none k c.args.heard c.args.address c.args.random is)
