use Rattle.std.proofs.Common.{◌≡◌, ◌⊎◌, inl, inr, ℕ, ◌+◌, ◌-◌, ◌<◌, ◌≤◌, Bool, true, false, refl, ap, subst, ◌∙◌, arith, nat_lt, ◌==◌, ◌||◌, if◌then◌else◌}
use Rattle.std.proofs.lemmas.Bool.Decides.{nat_tests}
use Rattle.dali_search.specs.Ascending.{Ascent, IsAscent, Knows, with_ones, apart, scale, from_known, asked_next, leads_to, is_bounded, told_yes, told_no}
use Rattle.dali_search.specs.{Ascending.steps_after, Ascending.silent_after, Ascending.answers_left, Ascending.one_if, Ascending.end_of_block, Least.IsBelow}
use Rattle.dali_search.specs.{Least.HasAtMost, Least.IsLeast, Least.Says, declared.step.Step.TheVariants.Again, declared.step.Step.TheVariants.Found}
use Rattle.dali_search.{specs.declared.step.Step.TheVariants.Nobody, proofs.Blocks.ones_from, proofs.Blocks.apart_most, proofs.Blocks.halves}

-- Of an ascent: where the number lies that it asks, and what an answer leaves.

most_apart : (n m : ℕ) → apart n m ≤ 24
unfolding apart
most_apart n m = apart_most 24 n m

-- the number that is asked once a gear has answered
record IsHalf (low high asked : ℕ) : Type 0 where
  from : low ≤ asked
  below : asked < high
  yes : apart low asked < apart low high
  no : apart (asked + 1) high < apart low high

halved : (low high : ℕ) → low < high → high < 0xFFFFFF → IsHalf low high (with_ones (apart low high - 1) low)
unfolding apart
halved low high less small =
    let half = halves 24 low high less (omega (arith, small)) in
    record { from = half.from; below = half.below; yes = half.yes; no = half.no }

-- ---------------------------------------------------------------- by cases

-- once a gear has answered, and it goes on
pub record IsHalving (a : Ascent) : Type 0 where
  pub less : a.low < a.high
  pub small : a.high < 0xFFFFFF
  pub asked : asked_next a ≡ with_ones (apart a.low a.high - 1) a.low
  pub left : answers_left a ≡ apart a.low a.high

-- if none has, and it goes on
pub record IsStepping (a : Ascent) : Type 0 where
  pub top : 0xFFFFFF ≤ a.high
  pub few : a.silent < 2
  pub asked : asked_next a ≡ from_known a

pub going_on : (a : Ascent) → leads_to a ≡ Again → IsHalving a ⊎ IsStepping a
going_on a again = go (nat_lt a.high 0xFFFFFF) refl again where
  go : (b : Bool) → nat_lt a.high 0xFFFFFF ≡ b
      → (if b then (if nat_lt a.low a.high then Again else Found a.high) else (if nat_lt a.silent 2 then Again else Nobody)) ≡ Again
      → IsHalving a ⊎ IsStepping a
  go true is e = inl (record {
    less = less (nat_lt a.low a.high) refl e;
    small = grind (arith, nat_tests);
    asked = ap (λ b. if b then with_ones (apart a.low a.high - 1) a.low else from_known a) is;
    left = grind (arith, nat_tests);
  }) where
    less : (c : Bool) → nat_lt a.low a.high ≡ c → (if c then Again else Found a.high) ≡ Again → a.low < a.high
    less true is e = grind (arith, nat_tests)
    less false is e = cc
  go false is e = inr (record {
    top = grind (arith, nat_tests);
    few = few (nat_lt a.silent 2) refl e;
    asked = ap (λ b. if b then with_ones (apart a.low a.high - 1) a.low else from_known a) is;
  }) where
    few : (c : Bool) → nat_lt a.silent 2 ≡ c → (if c then Again else Nobody) ≡ Again → a.silent < 2
    few true is e = grind (arith, nat_tests)
    few false is e = cc

-- ---------------------------------------------------------------- the number that it asks

pub from_drawn : (a : Ascent) → a.top < 0xFFFFFF → from_known a < 0xFFFFFF
from_drawn a small = found (a.found == 0) where
  stepped : (b : Bool) → (if b then end_of_block (scale a + a.steps) a.low else 0xFFFFFE) < 0xFFFFFF
  stepped true = grind (arith, nat_tests)
  stepped false = omega arith

  anew : (b : Bool) → (if b then a.top else (if nat_lt a.steps 4 then end_of_block (scale a + a.steps) a.low else 0xFFFFFE)) < 0xFFFFFF
  anew true = small
  anew false = stepped (nat_lt a.steps 4)

  found : (b : Bool)
      → (if b then 0xFFFFFE else (if a.is_anew then a.top else (if nat_lt a.steps 4 then end_of_block (scale a + a.steps) a.low else 0xFFFFFE))) < 0xFFFFFF
  found true = omega arith
  found false = anew a.is_anew

-- and while it goes on one that gear draw
pub asked_drawn : (a : Ascent) → IsAscent a → leads_to a ≡ Again → asked_next a < 0xFFFFFF
asked_drawn a is again = elim (going_on a again) [
  | inl h ↦
      let below : with_ones (apart a.low a.high - 1) a.low < a.high = (halved a.low a.high h.less h.small).below in
      let small : a.high < 0xFFFFFF = h.small in
      rw h.asked (omega (arith, below, small))
  | inr s ↦ rw s.asked (from_drawn a is.top)
]

-- a step up after a no under FFFFFE asks FFFFFE again
from_silent : (a : Ascent) → IsAscent a → 0 < a.silent → from_known a ≡ 0xFFFFFE
from_silent a is some = found (a.found == 0) where
  low : a.low ≡ 0xFFFFFF
  low = is.silence some

  stepped : (b : Bool) → (if b then end_of_block (scale a + a.steps) a.low else 0xFFFFFE) ≡ 0xFFFFFE
  stepped true =
      let from : a.low ≤ with_ones (scale a + a.steps) a.low = ones_from (scale a + a.steps) a.low in
      grind (arith, nat_tests, from, low)
  stepped false = refl

  anew : (b : Bool) → a.is_anew ≡ b
      → (if b then a.top else (if nat_lt a.steps 4 then end_of_block (scale a + a.steps) a.low else 0xFFFFFE)) ≡ 0xFFFFFE
  anew true e = let none : a.silent ≡ 0 = is.anew e in absurd (omega (arith, none, some))
  anew false e = stepped (nat_lt a.steps 4)

  found : (b : Bool)
      → (if b then 0xFFFFFE else (if a.is_anew then a.top else (if nat_lt a.steps 4 then end_of_block (scale a + a.steps) a.low else 0xFFFFFE))) ≡ 0xFFFFFE
  found true = refl
  found false = anew a.is_anew refl

-- and from the fourth on each asks FFFFFE
pub from_fourth : (a : Ascent) → a.is_anew ≡ false → 4 ≤ a.steps → from_known a ≡ 0xFFFFFE
from_fourth a new most = grind (arith, nat_tests)

-- ---------------------------------------------------------------- what an answer leaves

pub yes_is : (a : Ascent) → IsAscent a → leads_to a ≡ Again → IsAscent (told_yes a (asked_next a))
yes_is a is again =
    let drawn : asked_next a < 0xFFFFFF = asked_drawn a is again in
    record {
      low = is.low;
      high = omega (arith, drawn);
      silence = is.silence;
      anew = is.anew;
      few = is.few;
      steps = is.steps;
      found = is.found;
      top = is.top;
    }

-- what a no leaves of the counts, by the number that was asked
record IsCounted (a : Ascent) (asked steps silent : ℕ) : Type 0 where
  few : silent ≤ 2
  most : steps ≤ 4 + silent
  silence : 0 < silent → asked + 1 ≡ 0xFFFFFF

pub no_is : (a : Ascent) → IsAscent a → leads_to a ≡ Again → IsAscent (told_no a (asked_next a))
no_is a is again =
    let drawn : asked_next a < 0xFFFFFF = asked_drawn a is again in
    let counts : Counted = elim (going_on a again) [
      | inl h ↦ halving h
      | inr s ↦ stepping s
    ] in
    record {
      low = omega (arith, drawn);
      high = is.high;
      silence = counts.silence;
      anew = λ e. absurd cc;
      few = counts.few;
      steps = counts.most;
      found = is.found;
      top = is.top;
    }
  where
    Counted : Type 0
    Counted = IsCounted a (asked_next a) (told_no a (asked_next a)).steps (told_no a (asked_next a)).silent

    halving : IsHalving a → Counted
    halving h =
        let below : with_ones (apart a.low a.high - 1) a.low < a.high = (halved a.low a.high h.less h.small).below in
        let asked : asked_next a < a.high = rw h.asked below in
        let none : 0 < a.silent → ⊥ = λ some. let low : a.low ≡ 0xFFFFFF = is.silence some in omega (arith, low, h.less, h.small) in
        let most : a.steps ≤ 4 + a.silent = is.steps in
        record {
          few = grind (arith, nat_tests, h.small, none, asked);
          most = grind (arith, nat_tests, h.small, none, asked, most);
          silence = grind (arith, nat_tests, h.small, none, asked);
        }

    stepping : IsStepping a → Counted
    stepping s = at (asked_next a == 0xFFFFFE) refl where
      most : a.steps ≤ 4 + a.silent
      most = is.steps

      at : (b : Bool) → (asked_next a == 0xFFFFFE) ≡ b
          → IsCounted a (asked_next a) (if is_bounded a || a.is_anew then a.steps else a.steps + 1) (if b then a.silent + 1 else a.silent)
      at true e = record {
        few = let few : a.silent < 2 = s.few in omega (arith, few);
        most = steps (is_bounded a || a.is_anew);
        silence = λ some. grind (arith, nat_tests);
      } where
        steps : (b : Bool) → (if b then a.steps else a.steps + 1) ≤ 4 + (a.silent + 1)
        steps true = omega (arith, most)
        steps false = omega (arith, most)
      at false e = record {
        few = is.few;
        most = steps a.is_anew refl;
        silence = λ some. absurd (none some);
      } where
        other : asked_next a ≡ 0xFFFFFE → ⊥
        other same = grind (arith, nat_tests)

        none : 0 < a.silent → ⊥
        none some = other (s.asked ∙ from_silent a is some)

        open_ended : is_bounded a ≡ false
        open_ended = let top : 0xFFFFFF ≤ a.high = s.top in grind (arith, nat_tests)

        steps : (b : Bool) → a.is_anew ≡ b → (if is_bounded a || a.is_anew then a.steps else a.steps + 1) ≤ 4 + a.silent
        steps true new = rw (open_ended, new) most
        steps false new =
            let early : 4 ≤ a.steps → ⊥ = λ late. other (s.asked ∙ from_fourth a new late) in
            rw (open_ended, new) (omega (arith, early))

-- ---------------------------------------------------------------- that it ends

fewer_told : (a : Ascent) → IsAscent a → leads_to a ≡ Again → answers_left (told_yes a (asked_next a)) < answers_left a
fewer_told a is again = elim (going_on a again) [
  | inl h ↦
      let half = halved a.low a.high h.less h.small in
      let yes : apart a.low (with_ones (apart a.low a.high - 1) a.low) < apart a.low a.high = half.yes in
      rw (left, h.left, h.asked) yes
  | inr s ↦
      let most : apart a.low (asked_next a) ≤ 24 = most_apart a.low (asked_next a) in
      let few : a.silent < 2 = s.few in
      let top : 0xFFFFFF ≤ a.high = s.top in
      rw left (grind (arith, nat_tests))
] where
  drawn : asked_next a < 0xFFFFFF
  drawn = asked_drawn a is again

  left : answers_left (told_yes a (asked_next a)) ≡ apart a.low (asked_next a)
  left = grind (arith, nat_tests, drawn)

-- with the parts that are counted apart
pub no_told : (a : Ascent) (asked steps silent : ℕ) → IsAscent a → leads_to a ≡ Again → asked ≡ asked_next a → steps ≡ steps_after a
    → silent ≡ silent_after a asked
    → IsAscent (record { low = asked + 1; high = a.high; steps = steps; is_anew = false; silent = silent; found = a.found; top = a.top })
no_told a asked steps silent is again asked_is steps_is silent_is = rw (silent_is, steps_is, asked_is) (no_is a is again)

pub yes_told : (a : Ascent) (asked : ℕ) → IsAscent a → leads_to a ≡ Again → asked ≡ asked_next a → IsAscent (told_yes a asked)
yes_told a asked is again asked_is = rw asked_is (yes_is a is again)

pub fewer_yes : (a : Ascent) (asked : ℕ) → IsAscent a → leads_to a ≡ Again → asked ≡ asked_next a → answers_left (told_yes a asked) < answers_left a
fewer_yes a asked is again asked_is = rw asked_is (fewer_told a is again)

-- and after a no
pub fewer_no : (a : Ascent) (asked : ℕ) → IsAscent a → leads_to a ≡ Again → asked ≡ asked_next a → answers_left (told_no a asked) < answers_left a
fewer_no a asked is again asked_is = elim (going_on a again) [
  | inl h ↦ halving h
  | inr s ↦ stepping s (is_bounded a) refl a.is_anew refl (asked == 0xFFFFFE) refl
] where
  halving : IsHalving a → answers_left (told_no a asked) < answers_left a
  halving h =
      let half = halved a.low a.high h.less h.small in
      let no : apart (with_ones (apart a.low a.high - 1) a.low + 1) a.high < apart a.low a.high = half.no in
      let left : answers_left (told_no a asked) ≡ apart (asked + 1) a.high = grind (arith, nat_tests, h.small) in
      rw (left, h.left, asked_is, h.asked) no

  stepping : IsStepping a → (b : Bool) → is_bounded a ≡ b → (c : Bool) → a.is_anew ≡ c
      → (e : Bool) → (asked == 0xFFFFFE) ≡ e → answers_left (told_no a asked) < answers_left a
  stepping s true b_is c c_is e e_is = let top : 0xFFFFFF ≤ a.high = s.top in grind (arith, nat_tests)
  stepping s false b_is true c_is true e_is = let few : a.silent < 2 = s.few in rw (b_is, c_is, e_is) (omega (arith, few))
  stepping s false b_is true c_is false e_is = rw (b_is, c_is, e_is) (omega arith)
  stepping s false b_is false c_is true e_is = let few : a.silent < 2 = s.few in rw (b_is, c_is, e_is) (omega (arith, few))
  stepping s false b_is false c_is false e_is =
      let early : 4 ≤ a.steps → ⊥ = λ late. other (asked_is ∙ s.asked ∙ from_fourth a c_is late) in
      rw (b_is, c_is, e_is) (omega (arith, early))
    where
      other : asked ≡ 0xFFFFFE → ⊥
      other same = grind (arith, nat_tests)

pub left_at_most : (a : Ascent) → answers_left a ≤ 31
left_at_most a = at (is_bounded a) a.is_anew where
  at : (b c : Bool) → (if b then apart a.low a.high else 24 + (2 - a.silent) + (4 - a.steps) + one_if c) ≤ 31
  at true c = let most : apart a.low a.high ≤ 24 = most_apart a.low a.high in omega (arith, most)
  at false true = omega arith
  at false false = omega arith

-- ---------------------------------------------------------------- what it says of a set

pub says_found : (has : ℕ → Bool) (a : Ascent) → IsAscent a → IsBelow has 0xFFFFFF → Knows has a → Says has (leads_to a)
says_found has a is below knows = go (is_bounded a) refl where
  least : a.high < 0xFFFFFF → (a.low < a.high → ⊥) → IsLeast has a.high
  least small over = at (knows.below small) where
    at : HasAtMost has a.high → IsLeast has a.high
    at found =
        let from : a.low ≤ found.0 = knows.above found.0 found.1 in
        let to : found.0 ≤ a.high = found.2 in
        let same : found.0 ≡ a.high = omega (arith, from, to, over) in
        (subst (λ n. has n ≡ true) same found.1, λ m member. let past : a.low ≤ m = knows.above m member in omega (arith, past, from, to, over))

  ended : a.high < 0xFFFFFF → (b : Bool) → nat_lt a.low a.high ≡ b → Says has (if b then Again else Found a.high)
  ended small true e = tt
  ended small false e = least small (λ less. grind (arith, nat_tests))

  nobody : (b : Bool) → nat_lt a.silent 2 ≡ b → Says has (if b then Again else Nobody)
  nobody true e = tt
  nobody false e = λ m member.
      let some : 0 < a.silent = grind (arith, nat_tests) in
      let low : a.low ≡ 0xFFFFFF = is.silence some in
      let past : a.low ≤ m = knows.above m member in
      let small : m < 0xFFFFFF = below m member in
      omega (arith, low, past, small)

  go : (b : Bool) → is_bounded a ≡ b
      → Says has (if b then (if nat_lt a.low a.high then Again else Found a.high) else (if nat_lt a.silent 2 then Again else Nobody))
  go true e = ended (grind (arith, nat_tests)) (nat_lt a.low a.high) refl
  go false e = nobody (nat_lt a.silent 2) refl
