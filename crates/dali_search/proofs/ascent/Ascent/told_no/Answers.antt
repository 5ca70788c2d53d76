use Rattle.std.proofs.Common.{◌≡◌, sym, subst}
use Rattle.dali_search.specs.Ascending.{asked_next, leads_to, steps_after, silent_after}
use Rattle.dali_search.{specs.declared.step.Step.TheVariants.Again, proofs.Ascents.no_told}
use Rattle.dali_search.proofs.ascent.Ascent.told_no.Goals as goal

pub invariant_of-result : goal.invariant_of-result
invariant_of-result c =
    no_told _ c.args.asked _ _ c.self.invariant (subst (λ a. leads_to a ≡ Again) (sym c.self.view_is) c.requires.goes_on)
    (subst (λ a. c.args.asked ≡ asked_next a) (sym c.self.view_is) c.requires.asked)
    (subst (λ a. c.steps_after.result ≡ steps_after a) (sym c.self.view_is) c.steps_after.ensures)
    (subst (λ a. c.silent_after.result ≡ silent_after a c.args.asked) (sym c.self.view_is) c.silent_after.ensures)
