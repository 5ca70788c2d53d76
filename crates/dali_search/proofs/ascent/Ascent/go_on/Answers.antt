use Rattle.std.proofs.Common.{◌≡◌, sym, ◌∙◌, ap, refl, subst}
use Rattle.dali_search.specs.{Ascending.gone_on_from, Ascending.leads_to, declared.step.Step.TheVariants.Again, declared.step.Step.TheVariants.Found}
use Rattle.dali_search.proofs.ascent.Ascent.go_on.Goals as goal

pub returns-in-Found-clause-changed : goal.returns-in-Found-clause-changed
returns-in-Found-clause-changed c =
    let found : leads_to c.args.self.now ≡ Found c.in-Found.field-0 = sym c.step.ensures.value ∙ c.in-Found.is in
    c.go_above.ensures.changed c.in-Found.field-0 found ∙ sym (ap (λ s. gone_on_from s c.args.self.now) found)

pub returns-in-Found-clause-again : goal.returns-in-Found-clause-again
returns-in-Found-clause-again c =
    let found : leads_to c.args.self.now ≡ Found c.in-Found.field-0 = sym c.step.ensures.value ∙ c.in-Found.is in
    subst (λ a. leads_to a ≡ Again) (sym (c.go_above.ensures.changed c.in-Found.field-0 found)) refl
