use Rattle.std.proofs.Common.{◌≡◌, ℕ, ◌+◌, ◌≤◌, List, [], ◌∷◌, ◌++◌, refl, subst, arith}
use Rattle.std.proofs.lemmas.List.{length-append}
use Rattle.std.specs.declared.option.Option.{Option, TheVariants.None, TheVariants.Some}
use Rattle.dali_events.specs.declared.trouble.Trouble.{Trouble}
use Rattle.dali_events.specs.declared.trouble.Trouble.TheVariants as trouble
use Rattle.dali_standing.specs.declared.report.Report.{Report}
use Rattle.dali_line.{specs.Driving.AreDriven, specs.Driving.Drives, proofs.Counts.few_events}

-- TURNS OF A PUMPER that follow each other are one run.

module _ (pumped : ℕ → Trouble → Report → ℕ → Type 0) (stuck : ℕ → Type 0) (lapsed : ℕ → ℕ → Type 0) where
  driven_more : (from between to : ℕ) (xs ys : List (Option Report)) → AreDriven pumped stuck lapsed from xs between
      → AreDriven pumped stuck lapsed between ys to
      → AreDriven pumped stuck lapsed from (xs ++ ys) to
  driven_more from between to [] ys one two = subst (λ (n : ℕ). AreDriven pumped stuck lapsed n ys to) one two
  driven_more from between to (Some r ∷ xs) ys one two = (one.0, one.1, driven_more one.0 between to xs ys one.2 two)
  driven_more from between to (None ∷ xs) ys one two = (one.0, one.1, one.2, driven_more one.0 between to xs ys one.3 two)

  pub drives_none : (from to turns : ℕ) → to ≡ from → Drives pumped stuck lapsed from to turns
  drives_none from to turns same = record { done = []; driven = same; few = omega arith }

  pub drives_pump : (from to : ℕ) (r : Report) → pumped from trouble.None r to → Drives pumped stuck lapsed from to 1
  drives_pump from to r pump = record { done = Some r ∷ []; driven = (to, pump, refl); few = omega arith }

  pub drives_lapse : (from to : ℕ) → stuck from → lapsed from to → Drives pumped stuck lapsed from to 1
  drives_lapse from to none lapse = record { done = None ∷ []; driven = (to, none, lapse, refl); few = omega arith }

  pub drives_more : (from between to turns : ℕ) → Drives pumped stuck lapsed from between turns → Drives pumped stuck lapsed between to 1
      → Drives pumped stuck lapsed from to (turns + 1)
  drives_more from between to turns one two = record {
    done = one.done ++ two.done;
    driven = driven_more from between to one.done two.done one.driven two.driven;
    few = let few = one.few in let more = two.few in omega (arith, length-append one.done two.done);
  }

  pub drives_wider : (from to turns most : ℕ) → turns ≤ most → Drives pumped stuck lapsed from to turns → Drives pumped stuck lapsed from to most
  drives_wider from to turns most wide one = record { done = one.done; driven = one.driven; few = let few = one.few in omega arith }

-- what a turn of a pumper did
pub ruleset turns = (few_events, drives_none, drives_pump, drives_lapse)
