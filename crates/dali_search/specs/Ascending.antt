use Rattle.std.specs.Prelude.{◌≡◌, ℕ, zero, suc, ◌+◌, ◌-◌, ◌*◌, ◌/◌, ◌<◌, ◌≤◌, ◌==◌, Bool, true}
use Rattle.std.specs.Prelude.{false, ◌||◌, nat_lt, max, min, if◌then◌else◌}
use Rattle.dali_search.specs.declared.step.Step.{Step}
use Rattle.dali_search.specs.declared.step.Step.TheVariants.{Again, Found, Nobody}
use Rattle.dali_search.specs.Least.{HasAtMost}

-- AN ASCENT: a search that goes up from the member that it found last. Each number that it asks is
-- the last of a block of 2^k numbers, which share all but their lowest k bits; so two probes in a
-- row mostly differ in one byte.

-- What is known of it: no member is below `low`, and some member is at most `high`, where FFFFFF,
-- which no gear draws, stands for nothing known; how many steps up were answered no; whether it
-- begins anew, below members that it found before; how often FFFFFE was answered no; how many
-- members it found, and the greatest of them.
pub record Ascent : Type 0 where
  pub low : ℕ
  pub high : ℕ
  pub steps : ℕ
  pub is_anew : Bool
  pub silent : ℕ
  pub found : ℕ
  pub top : ℕ

-- the one with these parts
abbrev pub ascent_of : ℕ → ℕ → ℕ → Bool → ℕ → ℕ → ℕ → Ascent
ascent_of low high steps is_anew silent found top = record {
  low = low;
  high = high;
  steps = steps;
  is_anew = is_anew;
  silent = silent;
  found = found;
  top = top;
}

-- ---------------------------------------------------------------- blocks

-- a number with its lowest k bits set to one: the last of its block
unfoldable pub with_ones : ℕ → ℕ → ℕ
with_ones zero n = n
with_ones (suc k) n = 2 * with_ones k (n / 2) + 1

-- how many of their lowest bits two numbers below 2^most do not share
unfoldable pub apart_below : ℕ → ℕ → ℕ → ℕ
apart_below zero n m = 0
apart_below (suc most) n m = if n == m then 0 else apart_below most (n / 2) (m / 2) + 1

unfoldable pub apart : ℕ → ℕ → ℕ
apart n m = apart_below 24 n m

-- FFFFFE is the greatest random address that a gear draws (IEC 62386-102:2014, RANDOMISE)
abbrev pub end_of_block : ℕ → ℕ → ℕ
end_of_block k n = min (with_ones k n) 0xFFFFFE

-- ---------------------------------------------------------------- what is asked

abbrev pub is_bounded : Ascent → Bool
is_bounded a = nat_lt a.high 0xFFFFFF

-- the greatest k of which 2^k is at most the mean distance of the members that were found
abbrev pub scale : Ascent → ℕ
scale a = apart ((a.top + 1) / a.found) 0 - 1

-- A STEP UP, while no gear has answered: from the member that was found last to the end of a block
-- of about the mean distance, then of blocks twice, four and eight times as large, and then FFFFFE.
-- Before a member was found it is FFFFFE at once. Who begins anew first asks whether a member was
-- passed over, below those that were found.
abbrev pub step_up : Ascent → ℕ
step_up a =
    if a.is_anew then a.top
    else (if nat_lt a.steps 4 then end_of_block (scale a + a.steps) a.low else 0xFFFFFE)

abbrev pub from_known : Ascent → ℕ
from_known a = if a.found == 0 then 0xFFFFFE else step_up a

-- THE NUMBER TO ASK NEXT: a step up; or, once a gear has answered, the last of the lower half of
-- the least block that has all numbers that are left.
abbrev pub asked_next : Ascent → ℕ
asked_next a =
    if is_bounded a then with_ones (apart a.low a.high - 1) a.low else from_known a

-- WHAT THE ANSWERS LEAD TO. No gear is left only if FFFFFE was answered no twice.
abbrev pub leads_to : Ascent → Step
leads_to a =
    if is_bounded a then (if nat_lt a.low a.high then Again else Found a.high)
    else (if nat_lt a.silent 2 then Again else Nobody)

-- ---------------------------------------------------------------- what an answer changes

-- A yes tells a number that some member is at most; a no, that all are above it. A further step up
-- is counted, but the one below what was found.
abbrev pub told_yes : Ascent → ℕ → Ascent
told_yes a asked = record a { high = asked }

abbrev pub steps_after : Ascent → ℕ
steps_after a = if is_bounded a || a.is_anew then a.steps else a.steps + 1

abbrev pub silent_after : Ascent → ℕ → ℕ
silent_after a asked = if asked == 0xFFFFFE then a.silent + 1 else a.silent

abbrev pub told_no : Ascent → ℕ → Ascent
told_no a asked = record {
  low = asked + 1;
  high = a.high;
  steps = steps_after a;
  is_anew = false;
  silent = silent_after a asked;
  found = a.found;
  top = a.top;
}

abbrev pub ascended : Ascent → Bool → Ascent
ascended a true = told_yes a (asked_next a)
ascended a false = told_no a (asked_next a)

-- ---------------------------------------------------------------- where one begins

-- before any gear was found; above a member that was found; and anew, if no gear answered under
-- the number that was found
abbrev pub ascent_at_first : Ascent
ascent_at_first = record {
  low = 0;
  high = 0xFFFFFF;
  steps = 0;
  is_anew = false;
  silent = 0;
  found = 0;
  top = 0;
}

abbrev pub above : Ascent → ℕ → Ascent
above a r = record {
  low = r + 1;
  high = 0xFFFFFF;
  steps = 0;
  is_anew = false;
  silent = 0;
  found = min (a.found + 1) 255;
  top = max a.top r;
}

abbrev pub begun_anew : Ascent → Ascent
begun_anew a = record {
  low = 0;
  high = 0xFFFFFF;
  steps = 0;
  is_anew = nat_lt 0 a.found;
  silent = 0;
  found = a.found;
  top = a.top;
}

-- after an end: above the gear that was found, and anew if none was left
abbrev pub gone_on_from : Step → Ascent → Ascent
gone_on_from Again a = a
gone_on_from (Found r) a = above a r
gone_on_from Nobody a = begun_anew a

abbrev pub gone_on : Ascent → Ascent
gone_on a = gone_on_from (leads_to a) a

-- ---------------------------------------------------------------- what it says of a set

-- WHAT IS KNOWN OF A SET: no member is below `low`, and some member is at most `high`, unless
-- nothing is known.
pub record Knows (has : ℕ → Bool) (a : Ascent) : Type 0 where
  pub above : (m : ℕ) → has m ≡ true → a.low ≤ m
  pub below : a.high < 0xFFFFFF → HasAtMost has a.high

-- ---------------------------------------------------------------- that it ends

-- how many answers may come at most until it ends
abbrev pub one_if : Bool → ℕ
one_if true = 1
one_if false = 0

abbrev pub answers_left : Ascent → ℕ
answers_left a =
    if is_bounded a then apart a.low a.high
    else 24 + (2 - a.silent) + (4 - a.steps) + one_if a.is_anew

-- WHAT IS TRUE OF EVERY ASCENT: its numbers are of 24 bits; a no under FFFFFE leaves none, and is
-- none of the step up with which it begins anew; and what was found is below FFFFFF.
pub record IsAscent (a : Ascent) : Type 0 where
  pub low : a.low ≤ 0xFFFFFF
  pub high : a.high ≤ 0xFFFFFF
  pub silence : 0 < a.silent → a.low ≡ 0xFFFFFF
  pub anew : a.is_anew ≡ true → a.silent ≡ 0
  pub few : a.silent ≤ 2
  pub steps : a.steps ≤ 4 + a.silent
  pub found : a.found ≤ 255
  pub top : a.top < 0xFFFFFF
