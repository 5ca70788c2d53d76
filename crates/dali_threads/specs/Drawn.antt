use Rattle.std.specs.Prelude.{◌≡◌, ◌==◌, ℕ, zero, suc, ◌+◌, ◌*◌, ◌%◌, ◌^◌, ◌<◌, ◌≤◌, List, []}
use Rattle.std.specs.Prelude.{◌∷◌, ◌++◌, All, false, length, if◌then◌else◌}
use Rattle.std.specs.List.{list_any}
use Rattle.rand_core.specs.Pcg32Seed.{pcg32_seed}
use Rattle.rand_pcg.specs.Lcg.{Lcg}
use Rattle.rand_pcg.specs.Pcg.{pcg32, pcg32_of_seed}
use Rattle.dali_frame.specs.Random.{MASK24}
use Rattle.dali_events.specs.Plan.{any_pair}

-- THE RANDOM ADDRESSES of a run: none is FFFFFF, and there are so many at the most.
pub record AreDrawn (most : ℕ) (numbers : List ℕ) : Type 0 where
  pub below : All (λ r. r < MASK24) numbers
  pub count : length numbers ≤ most

-- no two of the numbers are the same
abbrev pub StandOnce : List ℕ → Type 0
StandOnce numbers = any_pair (λ draw other. draw == other) numbers ≡ false

-- THE NUMBERS OF A SEED. The low 24 bits of one word more are taken, unless they are FFFFFF or are
-- there already.
abbrev pub with_number : List ℕ → ℕ → List ℕ
with_number numbers r =
    if r == MASK24
    then numbers
    else if list_any (λ x. r == x) numbers then numbers else numbers ++ r ∷ []

-- so many words more of a generator, until there are as many numbers as are wanted
abbrev pub drawn_on : ℕ → ℕ → Lcg → List ℕ → List ℕ
drawn_on zero most g numbers = numbers
drawn_on (suc words) most g numbers =
    if length numbers == most
    then numbers
    else drawn_on words most (pcg32 g).1 (with_number numbers ((pcg32 g).0 % 2 ^ 24))

abbrev pub numbers_of : ℕ → ℕ → List ℕ
numbers_of seed most = drawn_on (4 * most + 64) most (pcg32_of_seed (pcg32_seed 16 seed)) []
