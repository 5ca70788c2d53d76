use Rattle.std.proofs.Common.{◌≡◌, ℕ, List, ◌++◌, length, refl, sym, ap, ◌∙◌, codes, Result, Ok, Err, OnOk}
use Rattle.std.proofs.lemmas.{List.append_assoc}
use Rattle.dali_world.specs.Site.{SiteState, world}
use Rattle.dali_line.specs.declared.outcome.Outcome.{Outcome}
use Rattle.dali_threads.specs.Json.{json_outcomes, json_tables_up, json_controllers, json_tables}

-- A TEXT BEHIND ANOTHER ONE, which are one together
pub pushed : {E : Type 0} (r : Result (Unit {0}) E) (old mid new xs ys all : List ℕ) → all ≡ xs ++ ys → mid ≡ old ++ xs
    → OnOk r (new ≡ mid ++ ys) → OnOk r (new ≡ old ++ all)
pushed (Ok x) old mid new xs ys all same first second =
    second ∙ ap (λ ts. ts ++ ys) first ∙ append_assoc old xs ys ∙ ap (λ ts. old ++ ts) (sym same)
pushed (Err e) old mid new xs ys all same first second = tt

pub controllers_are : (outcomes : List Outcome) → json_controllers outcomes ≡ codes "{\"controllers\":[" ++ json_outcomes 0 outcomes
unfolding json_controllers
controllers_are outcomes = refl

pub tables_are : (s : SiteState) → json_tables s ≡ codes "],\"tables\":[" ++ json_tables_up (world s) (length s.plan.blocks)
unfolding json_tables
tables_are s = refl
