use Rattle.std.specs.Prelude.{◌≡◌, ℕ, ◌+◌, ◌/◌, ◌<◌, ◌≤◌, ◌==◌, Bool, true, false, List, [], ◌∷◌}
use Rattle.std.specs.Prelude.{◌++◌, nat_lt, max, min, if◌then◌else◌}
use Rattle.std.specs.List.{AllByRecursion}
use Rattle.dali_search.specs.declared.step.Step.{Step}
use Rattle.dali_search.specs.declared.step.Step.TheVariants.{Again, Found, Nobody}

-- What is known of a search: each number that was asked, with its answer, oldest first; the number
-- that is next, or was last; and what the last answer led to.
pub record Search : Type 0 where
  pub answers : List (ℕ × Bool)
  pub probe : ℕ
  pub step : Step

-- FFFFFE is the greatest random address that a gear draws (IEC 62386-102:2014, RANDOMISE)
abbrev pub at_first : Search
at_first = record { answers = []; probe = 0xFFFFFE; step = Again }

-- a set of numbers, as a test, has no member from n on
abbrev pub IsBelow : (ℕ → Bool) → ℕ → Type 0
IsBelow has n = (m : ℕ) → has m ≡ true → m < n

-- some member of the set is at most n
abbrev pub HasAtMost : (ℕ → Bool) → ℕ → Type 0
HasAtMost has n = (m : ℕ) × (has m ≡ true) × (m ≤ n)

-- the set gives this answer to the question whether some member is at most n
abbrev pub Gives : (ℕ → Bool) → ℕ → Bool → Type 0
Gives has n true = HasAtMost has n
Gives has n false = HasAtMost has n → ⊥

-- the set gives each of these answers
abbrev pub Agrees : (ℕ → Bool) → List (ℕ × Bool) → Type 0
Agrees has answers = AllByRecursion (λ a. Gives has a.0 a.1) answers

-- n is the least member of the set
abbrev pub IsLeast : (ℕ → Bool) → ℕ → Type 0
IsLeast has n = (has n ≡ true) × ((m : ℕ) → has m ≡ true → n ≤ m)

-- what a step says of the set that was asked
abbrev pub Says : (ℕ → Bool) → Step → Type 0
Says has Again = Unit {0}
Says has (Found r) = IsLeast has r
Says has Nobody = (m : ℕ) → has m ≡ true → ⊥

-- what holds of the number that was found
abbrev pub NumberOf : Step → (ℕ → Type 0) → Type 0
NumberOf (Found r) P = P r
NumberOf Again P = Unit {0}
NumberOf Nobody P = Unit {0}

-- the least number that the least member can be: it is above each number that was answered no
abbrev pub lowest : List (ℕ × Bool) → ℕ
lowest [] = 0
lowest ((n, true) ∷ later) = lowest later
lowest ((n, false) ∷ later) = max (n + 1) (lowest later)

-- the greatest number that the least member can be: it is at most each number that was answered
-- yes; FFFFFF, which no gear draws, stands for no member
abbrev pub highest : List (ℕ × Bool) → ℕ
highest [] = 0xFFFFFF
highest ((n, true) ∷ later) = min n (highest later)
highest ((n, false) ∷ later) = highest later

-- what the answers lead to
abbrev pub step_between : ℕ → ℕ → Step
step_between low high =
    if nat_lt low high then Again else (if low == 0xFFFFFF then Nobody else Found low)

abbrev pub step_after : List (ℕ × Bool) → Step
step_after answers = step_between (lowest answers) (highest answers)

-- The number to ask next: FFFFFE until an answer was yes, and then the middle of what is left,
-- rounded down.
abbrev pub probe_between : ℕ → ℕ → ℕ
probe_between low high = if high == 0xFFFFFF then 0xFFFFFE else (low + high) / 2

abbrev pub probe_after : List (ℕ × Bool) → ℕ
probe_after answers = probe_between (lowest answers) (highest answers)

-- A SEARCH WITH ONE MORE ANSWER, while it goes on: an end keeps the probe that was last.
abbrev pub next_probe : Step → ℕ → ℕ → ℕ
next_probe Again last next = next
next_probe _ last next = last

abbrev pub search_with : Search → List (ℕ × Bool) → Search
search_with s answers = record {
  answers = answers;
  probe = next_probe (step_after answers) s.probe (probe_after answers);
  step = step_after answers;
}

abbrev pub answered : Search → Bool → Search
answered s said = search_with s (s.answers ++ (s.probe, said) ∷ [])
