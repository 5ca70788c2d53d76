use Rattle.dali_progress.proofs.Below.{◌≡◌, ℕ, ◌+◌, ◌<◌, ◌≤◌, Bool, true, false, refl, subst, arith, nat_lt, min, max, if◌then◌else◌, nat_tests, MASK24, Ascent}
use Rattle.dali_progress.proofs.Below.{IsAscent, Knows, is_bounded, leads_to, ascended, ascent_at_first, above, begun_anew, Again, Found, Nobody, yes_is, no_is}

-- A SEARCH THAT GOES UP, whichever gear are there: also some that never drew a number.

pub first_is : IsAscent ascent_at_first
first_is = record {
  low = omega arith;
  high = omega arith;
  silence = λ some. absurd (omega (arith, some));
  anew = λ never. refl;
  few = omega arith;
  steps = omega arith;
  found = omega arith;
  top = omega arith;
}

pub ascended_is : (x : Ascent) (b : Bool) → IsAscent x → leads_to x ≡ Again → IsAscent (ascended x b)
ascended_is x true is again = yes_is x is again
ascended_is x false is again = no_is x is again

pub above_is : (x : Ascent) (r : ℕ) → IsAscent x → r < MASK24 → IsAscent (above x r)
above_is x r is small = record {
  low = omega (arith, small);
  high = omega arith;
  silence = λ some. absurd (omega (arith, some));
  anew = λ never. refl;
  few = omega arith;
  steps = omega arith;
  found = least x.found;
  top = greatest x.top is.top;
} where
  least : (n : ℕ) → min (n + 1) 255 ≤ 255
  least n = omega arith

  greatest : (n : ℕ) → n < 0xFFFFFF → max n r < 0xFFFFFF
  greatest n less = omega (arith, less, small)

pub anew_is : (x : Ascent) → IsAscent x → IsAscent (begun_anew x)
anew_is x is = record {
  low = omega arith;
  high = omega arith;
  silence = λ some. absurd (omega (arith, some));
  anew = λ some. refl;
  few = omega arith;
  steps = omega arith;
  found = is.found;
  top = is.top;
}

-- when it begins, nothing is known of a set
pub anything_first : (has : ℕ → Bool) → Knows has ascent_at_first
anything_first has = record { above = λ m member. omega arith; below = λ small. absurd (omega (arith, small)) }

pub anything_anew : (has : ℕ → Bool) (x : Ascent) → Knows has (begun_anew x)
anything_anew has x = record { above = λ m member. omega arith; below = λ small. absurd (omega (arith, small)) }

pub knows_above : (has : ℕ → Bool) (x : Ascent) (r : ℕ) → ((m : ℕ) → has m ≡ true → r < m) → Knows has (above x r)
knows_above has x r past =
    record { above = λ m member. (let more : r < m = past m member in omega (arith, more)); below = λ small. absurd (omega (arith, small)) }

pub above_found : (x : Ascent) (r : ℕ) → (above x r).found ≡ 0 → ⊥
above_found x r = some x.found where
  some : (n : ℕ) → min (n + 1) 255 ≡ 0 → ⊥
  some n none = omega (arith, none)

-- ---------------------------------------------------------------- where it ends

pub record IsLeast (has : ℕ → Bool) (r : ℕ) : Type 0 where
  pub there : has r ≡ true
  pub least : (m : ℕ) → has m ≡ true → r ≤ m
  pub drawn : r < MASK24

bounded_small : (x : Ascent) → is_bounded x ≡ true → x.high < 0xFFFFFF
bounded_small x e = grind (arith, nat_tests, e)

pub found_is : (has : ℕ → Bool) (x : Ascent) (r : ℕ) → Knows has x → leads_to x ≡ Found r → IsLeast has r
found_is has x r knows leads = go (is_bounded x) refl (nat_lt x.low x.high) refl (nat_lt x.silent 2) leads where
  go : (b : Bool) → is_bounded x ≡ b → (c : Bool) → nat_lt x.low x.high ≡ c → (d : Bool)
      → (if b then (if c then Again else Found x.high) else (if d then Again else Nobody)) ≡ Found r → IsLeast has r
  go true bounded false met d e = subst (IsLeast has) high (record { there = there; least = least; drawn = small }) where
    high : x.high ≡ r
    high = same x.high r e where
      same : (m n : ℕ) → Found m ≡ Found n → m ≡ n
      same m n e = cc

    small : x.high < MASK24
    small = bounded_small x bounded

    under : x.high ≤ x.low
    under = grind (arith, nat_tests, met)

    least : (m : ℕ) → has m ≡ true → x.high ≤ m
    least m member = let low : x.low ≤ m = knows.above m member in omega (arith, under, low)

    there : has x.high ≡ true
    there =
        let at = knows.below small in
        let low : x.low ≤ at.0 = knows.above at.0 at.1 in
        let most : at.0 ≤ x.high = at.2 in
        let one : at.0 ≡ x.high = omega (arith, under, low, most) in
        subst (λ m. has m ≡ true) one at.1
  go true bounded true unmet d e = absurd (cc)
  go false unbounded c met true e = absurd (cc)
  go false unbounded c met false e = absurd (cc)

-- no gear is left that drew
pub nobody_is : (has : ℕ → Bool) (x : Ascent) → IsAscent x → Knows has x → leads_to x ≡ Nobody → (m : ℕ) → has m ≡ true → MASK24 ≤ m
nobody_is has x is knows leads m member = go (is_bounded x) (nat_lt x.low x.high) (nat_lt x.silent 2) refl leads where
  go : (b c d : Bool) → nat_lt x.silent 2 ≡ d → (if b then (if c then Again else Found x.high) else (if d then Again else Nobody)) ≡ Nobody → MASK24 ≤ m
  go true true d silent e = absurd (cc)
  go true false d silent e = absurd (cc)
  go false c true silent e = absurd (cc)
  go false c false silent e =
      let some : 0 < x.silent = grind (arith, nat_tests, silent) in
      let top : x.low ≡ 0xFFFFFF = is.silence some in
      let low : x.low ≤ m = knows.above m member in
      omega (arith, top, low)
