use Rattle.std.specs.Prelude.{◌≡◌, ℕ, ◌+◌, ◌<◌, ◌≤◌, ◌%◌, List, take, length, slice_index_or}
use Rattle.dali_frame.specs.Random.{low_of}
use Rattle.dali_script.specs.Records.{Assignment, HasAddress}
use Rattle.dali_script.specs.declared.pairs.Pairs.{Pairs}

-- the pairs that there are: as many of the first as are counted
abbrev pub pairs_in : Pairs → List Assignment
pairs_in p = take p.count p.pairs

-- nothing is left behind them: each further place has bytes 0 alone
abbrev pub IsCleared : Pairs → Type 0
IsCleared p = (i : ℕ) → p.count ≤ i → slice_index_or p.pairs i (0, 0) ≡ (0, 0)

-- their short addresses are ones
abbrev pub AreShort : List Assignment → Type 0
AreShort xs = (a : ℕ) → HasAddress xs a → a < 64

-- the last six bits of a random address
abbrev pub last_bits : ℕ → ℕ
last_bits r = low_of r % 64

abbrev pub random_at : List Assignment → ℕ → ℕ
random_at xs i = (slice_index_or xs i (0, 0)).1

-- One more than the place of the last of the first n pairs whose random address has these last
-- bits, or 0 if none has them.
pub record IsLast (xs : List Assignment) (n bits at : ℕ) : Type 0 where
  pub inside : at ≤ n
  pub there : (i : ℕ) → at ≡ i + 1 → last_bits (random_at xs i) ≡ bits
  pub none_after : (i : ℕ) → at ≤ i → i < n → last_bits (random_at xs i) ≡ bits → ⊥

-- that of each pair, among those before it, with its own last bits
pub record AreBefore (xs : List Assignment) (n : ℕ) (befores : List ℕ) : Type 0 where
  pub all : length befores ≡ 64
  pub before :
      (i : ℕ) → i < n → IsLast xs i (last_bits (random_at xs i)) (slice_index_or befores i 0)

-- and that of all, for each last bits that there may be
pub record AreLast (xs : List Assignment) (n : ℕ) (lasts : List ℕ) : Type 0 where
  pub all : length lasts ≡ 64
  pub last : (bits : ℕ) → bits < 64 → IsLast xs n bits (slice_index_or lasts bits 0)
