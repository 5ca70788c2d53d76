use Rattle.std.proofs.Common.{[], ◌∷◌, refl, sym, ◌∙◌}
use Rattle.dali_commissioning.proofs.Asked.{is_heard, first, second, third, all_told, not_told}
use Rattle.dali_commissioning.proofs.census.question.Goals as goal

pub returns-in_default-clause-asked : goal.returns-in_default-clause-asked
returns-in_default-clause-asked g c = (c.in_ok-high.ensures.put.0 ∷ [], first _ _ _ _ c.in_ok-high.ensures.put.1, refl)

pub returns-in_default-2-clause-asked : goal.returns-in_default-2-clause-asked
returns-in_default-2-clause-asked g c = (
  c.in_ok-middle.ensures.put.0 ∷ c.in_ok-high.ensures.put.0 ∷ [],
  second _ _ _ _ _ _ c.in_ok-high.ensures.put.1 (is_heard _ _ _ c.in_ok-high.ensures.put.2 c.in-Some.is) c.in_ok-middle.ensures.put.1,
  refl,
)

pub returns-in_default-3-clause-asked : goal.returns-in_default-3-clause-asked
returns-in_default-3-clause-asked g c = (
  c.in_ok-low.ensures.put.0 ∷ c.in_ok-middle.ensures.put.0 ∷ c.in_ok-high.ensures.put.0 ∷ [],
  third _ _ _ _ _ _ _ _ c.in_ok-high.ensures.put.1 (is_heard _ _ _ c.in_ok-high.ensures.put.2 c.in-Some.is)
      c.in_ok-middle.ensures.put.1 (is_heard _ _ _ c.in_ok-middle.ensures.put.2 c.in-Some-2.is) c.in_ok-low.ensures.put.1,
  not_told _ _ _ _ _ (sym c.in_ok-high.ensures.put.2 ∙ c.in-Some.is) (sym c.in_ok-middle.ensures.put.2 ∙ c.in-Some-2.is)
      (sym c.in_ok-low.ensures.put.2 ∙ c.in_default-3.is),
)

pub returns-clause-asked : goal.returns-clause-asked
returns-clause-asked g c = (
  c.in_ok-low.ensures.put.0 ∷ c.in_ok-middle.ensures.put.0 ∷ c.in_ok-high.ensures.put.0 ∷ [],
  third _ _ _ _ _ _ _ _ c.in_ok-high.ensures.put.1 (is_heard _ _ _ c.in_ok-high.ensures.put.2 c.in-Some.is)
      c.in_ok-middle.ensures.put.1 (is_heard _ _ _ c.in_ok-middle.ensures.put.2 c.in-Some-2.is) c.in_ok-low.ensures.put.1,
  all_told _ _ _ _ _ _ (sym c.in_ok-high.ensures.put.2 ∙ c.in-Some.is)
      (sym c.in_ok-middle.ensures.put.2 ∙ c.in-Some-2.is) (sym c.in_ok-low.ensures.put.2 ∙ c.in-Some-3.is),
)
