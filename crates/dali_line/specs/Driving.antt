use Rattle.std.specs.Prelude.{◌≡◌, ℕ, ◌≤◌, List, [], ◌∷◌, length, Option, None, Some}
use Rattle.dali_events.specs.declared.trouble.Trouble.{Trouble}
use Rattle.dali_events.specs.declared.trouble.Trouble.TheVariants as trouble
use Rattle.dali_standing.specs.declared.report.Report.{Report}

-- WHAT A PUMPER DID, one thing after the other: a report is that of a pump which nothing disturbed,
-- None that the bus lapsed, when nothing could be sent.
abbrev pub AreDriven : (ℕ → Trouble → Report → ℕ → Type 0) → (ℕ → Type 0) → (ℕ → ℕ → Type 0) → ℕ
    → List (Option Report) → ℕ → Type 0
AreDriven pumped stuck lapsed from [] to = to ≡ from
AreDriven pumped stuck lapsed from (Some r ∷ done) to =
    (next : ℕ) × pumped from trouble.None r next × AreDriven pumped stuck lapsed next done to
AreDriven pumped stuck lapsed from (None ∷ done) to =
    (next : ℕ) × stuck from × lapsed from next × AreDriven pumped stuck lapsed next done to

-- A PUMPER'S RUN of at most so many turns, from one share of its driver to another.
pub record Drives (pumped : ℕ → Trouble → Report → ℕ → Type 0) (stuck : ℕ → Type 0)
    (lapsed : ℕ → ℕ → Type 0) (from to turns : ℕ) : Type 0 where
  pub done : List (Option Report)
  pub driven : AreDriven pumped stuck lapsed from done to
  pub few : length done ≤ turns
