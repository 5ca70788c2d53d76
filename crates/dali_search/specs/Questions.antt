use Rattle.std.specs.Prelude.{◌≡◌, ◌⊎◌, ℕ, ◌+◌, ◌-◌, ◌*◌, ◌/◌, ◌%◌, ◌^◌, ◌<◌, ◌≤◌, ◌==◌, Bool}
use Rattle.std.specs.Prelude.{true, false, not, nat_lt, if◌then◌else◌, List, [], ◌∷◌}
use Rattle.dali_search.specs.declared.step.Step.{Step}
use Rattle.dali_search.specs.declared.step.Step.TheVariants.{Again, Found, Nobody}
use Rattle.dali_search.specs.Ascending.{Ascent, IsAscent, is_bounded, with_ones, apart, asked_next}
use Rattle.dali_search.specs.Ascending.{ascended, leads_to, one_if}

-- WHAT THE QUESTIONS OF AN ASCENT COST, in frames. A transaction has room for eight frames. It
-- begins with all three bytes of the number that is asked, and COMPARE. As long as there is room,
-- each further question takes the bytes that changed, and COMPARE; else a new transaction begins.

-- how many bytes of two numbers of 24 bits differ
unfoldable pub bytes_apart : ℕ → ℕ → ℕ
bytes_apart n m =
    one_if (not (n / 0x10000 == m / 0x10000))
    + one_if (not (n / 0x100 % 0x100 == m / 0x100 % 0x100))
    + one_if (not (n % 0x100 == m % 0x100))

-- a transaction of questions: the number that it asked last, and how many frames it has room for
pub record Asking : Type 0 where
  pub number : ℕ
  pub room : ℕ

abbrev pub has_room : Asking → ℕ → Bool
has_room q n = nat_lt (bytes_apart q.number n) q.room

abbrev pub frames_to_ask : Asking → ℕ → ℕ
frames_to_ask q n = if has_room q n then bytes_apart q.number n + 1 else 4

abbrev pub room_left : Asking → ℕ → ℕ
room_left q n = if has_room q n then q.room - (bytes_apart q.number n + 1) else 4

abbrev pub asking_next : Asking → ℕ → Asking
asking_next q n = record { number = n; room = room_left q n }

abbrev pub no_question : Asking
no_question = record { number = 0; room = 0 }

-- the frames of all questions, as they are answered, until the ascent ends
abbrev pub is_again : Step → Bool
is_again Again = true
is_again (Found r) = false
is_again Nobody = false

abbrev pub frames_asked : Ascent → Asking → List Bool → ℕ
frames_asked a q [] = 0
frames_asked a q (answer ∷ more) =
    if is_again (leads_to a)
    then frames_to_ask q (asked_next a)
    + frames_asked (ascended a answer) (asking_next q (asked_next a)) more
    else 0

-- ---------------------------------------------------------------- how many are left

-- HOW MANY FRAMES THE QUESTIONS TAKE AT MOST until it ends, in thirds of a frame: a transaction has
-- room for three questions that change one byte each, so each of them takes eight. First what a
-- transaction has no room for any more; then one question for each bit, five more if it changes
-- two neighbouring bytes, and five more after FFFFFE, which is no end of a block; and then a
-- question for each step up, which may change all three bytes, but for the first one.
abbrev pub thirds_of_room : ℕ → ℕ
thirds_of_room room = if nat_lt room 2 then 4 else (if nat_lt room 4 then 2 else 0)

abbrev pub thirds_of_bits : ℕ → ℕ
thirds_of_bits bits =
    8 * bits + (if nat_lt bits 8 then 0 else 5) + (if nat_lt bits 16 then 0 else 5)

abbrev pub thirds_of_last : ℕ → ℕ
thirds_of_last number = if number == 0xFFFFFE then 5 else 0

abbrev pub steps_left : Ascent → ℕ
steps_left a = (2 - a.silent) + (4 - a.steps)

abbrev pub thirds_of_steps : Ascent → ℕ
thirds_of_steps a = 16 * steps_left a + 207 - (if a.steps == 0 then 8 else 0)

abbrev pub thirds_left : Ascent → Asking → ℕ
thirds_left a q =
    thirds_of_room q.room
    + (if is_bounded a then thirds_of_bits (apart a.low a.high) + thirds_of_last q.number
    else thirds_of_steps a)

-- ---------------------------------------------------------------- with true answers

-- THE SAME IF ALL ANSWERS ARE TRUE. If some member is left, FFFFFE is answered yes; so it is
-- the last step up, and the first one if no gear was found yet.
abbrev pub steps_to_somebody : Ascent → ℕ
steps_to_somebody a = if a.found == 0 then 1 else 5 - a.steps

abbrev pub thirds_to_somebody : Ascent → Asking → ℕ
thirds_to_somebody a q =
    thirds_of_room q.room
    + (if is_bounded a then thirds_of_bits (apart a.low a.high) + thirds_of_last q.number
    else 16 * steps_to_somebody a + 207 - (if a.steps == 0 then 8 else 0))

-- If no gear is left, all answers are no. If none was found yet FFFFFE alone is asked,
-- twice.
abbrev pub thirds_to_nobody : Ascent → Asking → ℕ
thirds_to_nobody a q =
    if a.found == 0 then (if a.silent == 0 then 15 else (if a.silent == 1 then 3 else 0))
    else thirds_of_room q.room + (16 * steps_left a - (if a.steps == 0 then 8 else 0))

-- ---------------------------------------------------------------- between two questions

-- k lowest bits of a number are ones; two numbers agree above their lowest i bits
abbrev pub IsOnes : ℕ → ℕ → Type 0
IsOnes k n = with_ones k n ≡ n

abbrev pub AgreeAbove : ℕ → ℕ → ℕ → Type 0
AgreeAbove i n m = n / 2 ^ i ≡ m / 2 ^ i

-- Once a gear has answered, the number that was asked last is the upper bound, or just below the
-- lower one.
pub record IsHalved (low high number : ℕ) : Type 0 where
  pub ends : IsOnes (apart low high) high ⊎ (high ≡ 0xFFFFFE)
  pub last : (number ≡ high)
      ⊎ ((number + 1 ≡ low)
      × (low < high → AgreeAbove (apart low high + 1) number low × IsOnes (apart low high) number))

pub record IsUnderWay (a : Ascent) (q : Asking) : Type 0 where
  pub is : IsAscent a
  pub room : q.room ≤ 4
  pub ahead : a.is_anew ≡ false
  pub first : a.steps ≡ 0 → is_bounded a ≡ false → q.room ≡ 0
  pub halved : is_bounded a ≡ true → IsHalved a.low a.high q.number

-- if no gear was found yet: nothing was asked, or FFFFFE once
pub record IsTrueWay (a : Ascent) (q : Asking) : Type 0 where
  pub way : IsUnderWay a q
  pub fresh : a.found ≡ 0 → a.silent ≡ 0 → is_bounded a ≡ false → q.room ≡ 0
  pub again : a.found ≡ 0 → a.silent ≡ 1 → (q.number ≡ 0xFFFFFE) × (q.room ≡ 4)

-- an ascent that has asked nothing since it began, or since it found a member
pub record HasBegun (a : Ascent) : Type 0 where
  pub is : IsAscent a
  pub high : a.high ≡ 0xFFFFFF
  pub steps : a.steps ≡ 0
  pub silent : a.silent ≡ 0
  pub first : a.is_anew ≡ false
