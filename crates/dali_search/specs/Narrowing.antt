use Rattle.std.specs.Prelude.{◌≡◌, ℕ, zero, suc, ◌+◌, ◌^◌, ◌<◌, ◌≤◌, Bool, true, false, List, []}
use Rattle.std.specs.Prelude.{◌∷◌, ◌++◌, length, nat_lt, if◌then◌else◌}
use Rattle.dali_search.specs.declared.step.Step.TheVariants.{Again}
use Rattle.dali_search.specs.Least.{Search, lowest, highest, step_between, probe_between}

-- The numbers from low to high are those that the answers leave; they are few enough for the
-- answers to come.
pub record Narrows (low high : ℕ) (s : Search) : Type 0 where
  pub low_is : lowest s.answers ≡ low
  pub high_is : highest s.answers ≡ high
  pub step_is : s.step ≡ step_between low high
  pub probe_is : s.step ≡ Again → s.probe ≡ probe_between low high
  pub order : low ≤ high
  pub top : high ≤ 0xFFFFFF
  pub untouched : high ≡ 0xFFFFFF → low < high → length s.answers ≡ 0
  pub probe_top : s.probe < 0xFFFFFF
  pub count : length s.answers ≤ 25
  pub few : (left : ℕ) × (length s.answers + left ≡ 25) × (high < low + 2 ^ left)

-- the numbers that its answers leave are few enough for the answers to come
abbrev pub IsNarrowing : Search → Type 0
IsNarrowing s = Narrows (lowest s.answers) (highest s.answers) s

-- What a search has heard is told by how many answers there were, and by the least number that they
-- leave: a set with this least member, where FFFFFF stands for a set with none, gives the same
-- answers.

-- the number that is asked while the numbers from l.0 to l.1 are left
abbrev pub asked_of : ℕ × ℕ → ℕ
asked_of l = probe_between l.0 l.1

-- what that set answers
abbrev pub answer_of : ℕ × ℕ → ℕ → ℕ × Bool
answer_of l least = (asked_of l, if nat_lt (asked_of l) least then false else true)

-- the numbers that this answer leaves
abbrev pub left_by : ℕ × ℕ → ℕ → ℕ × ℕ
left_by l least = if nat_lt (asked_of l) least then (asked_of l + 1, l.1) else (l.0, asked_of l)

-- the numbers that so many answers leave
abbrev pub left_of : ℕ → ℕ → ℕ × ℕ
left_of zero least = (0, 0xFFFFFF)
left_of (suc k) least = left_by (left_of k least) least

-- so many answers, oldest first
abbrev pub answers_of : ℕ → ℕ → List (ℕ × Bool)
answers_of zero least = []
answers_of (suc k) least = answers_of k least ++ answer_of (left_of k least) least ∷ []

-- WHAT IS TRUE OF EVERY SEARCH: it is told by three numbers, how many answers there were, the least
-- number that they leave, and the probe
pub record IsSearch (s : Search) : Type 0 where
  pub narrows : Narrows (lowest s.answers) (highest s.answers) s
  pub told : s.answers ≡ answers_of (length s.answers) (lowest s.answers)
