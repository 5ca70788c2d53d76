use Rattle.std.proofs.Common.{◌≡◌, sym, subst}
use Rattle.dali_search.{specs.Ascending.asked_next, specs.Ascending.leads_to, specs.declared.step.Step.TheVariants.Again, proofs.Ascents.yes_told}
use Rattle.dali_search.proofs.ascent.Ascent.told_yes.Goals as goal

pub invariant_of-result : goal.invariant_of-result
invariant_of-result c =
    yes_told _ c.args.asked c.self.invariant (subst (λ a. leads_to a ≡ Again) (sym c.self.view_is) c.requires.goes_on)
    (subst (λ a. c.args.asked ≡ asked_next a) (sym c.self.view_is) c.requires.asked)
