use Rattle.std.proofs.Common.{◌∙◌, sym}
use Rattle.dali_search.proofs.Ascents.{asked_drawn, fewer_yes, fewer_no, left_at_most, says_found}
use Rattle.dali_search.proofs.ascent.Ascent.answer.Goals as goal
use Rattle.dali_search.proofs.ascent.Ascent.answer.Goals.{in-Again+then-yes, in-Again+else-yes, in_default}

pub told_no-requires-clause-drawn : goal.told_no-requires-clause-drawn
told_no-requires-clause-drawn c = rw c.asked-asked.ensures.value (asked_drawn _ c.step.ensures.ascent (sym c.step.ensures.value ∙ c.in-Again.is))

pub returns-clause-says : goal.returns-clause-says
returns-clause-says c = λ has below knows. rw c.step-2.ensures.value (says_found has _ c.step-2.ensures.ascent below knows)

pub returns-clause-fewer : goal.returns-clause-fewer
returns-clause-fewer c = λ again. elim c.match-step.branch [
  | in-Again+then-yes w ↦ rw (w.self-is, w.told_yes.ensures)
      (fewer_yes c.args.self.now w.asked-asked.result c.step.ensures.ascent again w.asked-asked.ensures.value)
  | in-Again+else-yes w ↦ rw (w.self-is, w.told_no.ensures)
      (fewer_no c.args.self.now w.asked-asked.result c.step.ensures.ascent again w.asked-asked.ensures.value)
  | in_default w ↦ absurd (w.in_default.not-Again (c.step.ensures.value ∙ again))
]

pub returns-clause-count : goal.returns-clause-count
returns-clause-count c = left_at_most c.match-step.self
