use Rattle.std.proofs.Common.{◌≡◌, ℕ, ◌+◌, ◌-◌, ◌*◌, ◌^◌, ◌<◌, ◌≤◌, Bool, true, false, [], ◌∷◌, ◌++◌, refl, sym, ap, subst, ◌∙◌, arith, nat_lt, nat_le, length}
use Rattle.std.proofs.Common.{length-append, add-one, inl, inr, ◌==◌, ◌/◌, ◌⊎◌, if◌then◌else◌, zero, suc}
use Rattle.std.proofs.lemmas.Bool.Decides.{nat_tests}
use Rattle.dali_search.specs.Least.{Search, lowest, highest, step_between, probe_between}
use Rattle.dali_search.specs.Narrowing.{Narrows, IsSearch, asked_of, left_by, left_of, answer_of, answers_of}
use Rattle.dali_search.specs.declared.step.Step.{Step, TheVariants.Again, TheVariants.Found, TheVariants.Nobody}
use Rattle.dali_search.proofs.Heard.{asked_within, narrowed_no, narrowed_yes, left_within}
use Rattle.dali_search.proofs.Narrowing.{lowest_yes, lowest_no, highest_yes, highest_no}

-- WHERE SO MANY ANSWERS OF A SET LEAD, by its least member, also past the end of a search. The numbers
-- that are left are those that the answers leave.
pub told_left : (k n : ℕ) → n ≤ 0xFFFFFF → (lowest (answers_of k n) ≡ (left_of k n).0) × (highest (answers_of k n) ≡ (left_of k n).1)
told_left zero n small = (refl, refl)
told_left (suc k) n small =
    let before = told_left k n small in
    let within = left_within k n small in
    let asked = asked_within (left_of k n) (omega (arith, within.0, within.1)) within.2 in
    go (nat_lt (asked_of (left_of k n)) n) refl before asked
  where
    go : (b : Bool) → nat_lt (asked_of (left_of k n)) n ≡ b → (lowest (answers_of k n) ≡ (left_of k n).0) × (highest (answers_of k n) ≡ (left_of k n).1)
        → ((left_of k n).0 ≤ asked_of (left_of k n) + 1) × (asked_of (left_of k n) ≤ (left_of k n).1)
        → (lowest (answers_of k n ++ (asked_of (left_of k n), if nat_lt (asked_of (left_of k n)) n then false else true) ∷ []) ≡ (left_by (left_of k n) n).0)
        × (highest (answers_of k n ++ (asked_of (left_of k n), if nat_lt (asked_of (left_of k n)) n then false else true) ∷ []) ≡ (left_by (left_of k n) n).1)
    go true less before asked =
        rw (narrowed_no (left_of k n) n less, less) (
          lowest_no (answers_of k n) (asked_of (left_of k n)) (subst (λ l. l ≤ asked_of (left_of k n) + 1) (sym before.0) asked.0),
          highest_no (answers_of k n) (asked_of (left_of k n)) ∙ before.1,
        )
    go false less before asked =
        rw (narrowed_yes (left_of k n) n less, less) (
          lowest_yes (answers_of k n) (asked_of (left_of k n)) ∙ before.0,
          highest_yes (answers_of k n) (asked_of (left_of k n))
              (subst (λ h. asked_of (left_of k n) ≤ h) (sym before.1) asked.1),
        )

-- after an answer FFFFFF is left only if it is the least
pub left_top : (k n : ℕ) → n ≤ 0xFFFFFF → (left_of (suc k) n).1 ≡ 0xFFFFFF → (left_of (suc k) n).0 ≡ 0xFFFFFF
left_top k n small top = go (nat_lt (asked_of (left_of k n)) n) refl (left_within k n small) top where
  go : (b : Bool) → nat_lt (asked_of (left_of k n)) n ≡ b → ((left_of k n).0 ≤ n) × (n ≤ (left_of k n).1) × ((left_of k n).1 ≤ 0xFFFFFF)
      → (left_by (left_of k n) n).1 ≡ 0xFFFFFF → (left_by (left_of k n) n).0 ≡ 0xFFFFFF
  go true less within top =
      let high : (left_of k n).1 ≡ 0xFFFFFF = rw (narrowed_no (left_of k n) n less) at top in
      rw (narrowed_no (left_of k n) n less) (at_top (left_of k n).0 (left_of k n).1 high)
    where
      at_top : (low high : ℕ) → high ≡ 0xFFFFFF → probe_between low high + 1 ≡ 0xFFFFFF
      at_top low high e = grind (arith, nat_tests)
  go false less within top =
      let asked : asked_of (left_of k n) ≡ 0xFFFFFF = rw (narrowed_yes (left_of k n) n less) at top in
      absurd (never (left_of k n).0 (left_of k n).1 (omega (arith, within.0, within.1)) within.2 asked)
    where
      never : (low high : ℕ) → low ≤ high → high ≤ 0xFFFFFF → probe_between low high ≡ 0xFFFFFF → ⊥
      never low high order top e = grind (arith, nat_tests)

-- and what is left is few enough for the answers to come
power_above : (m : ℕ) → 0 < 2 ^ m
power_above zero = omega arith
power_above (suc m) = let twice : 2 ^ suc m ≡ 2 * 2 ^ m = grind arith in omega (arith, twice, power_above m)

half_left : (low high n left : ℕ) → low ≤ high → high < low + 2 ^ suc left → (high ≡ 0xFFFFFF → (low ≡ 0) × (left ≡ 24) ⊎ (low ≡ 0xFFFFFF)) → low ≤ n
    → (left_by (low, high) n).1 < (left_by (low, high) n).0 + 2 ^ left
half_left low high n left order few whole from = go (nat_lt (probe_between low high) n) refl (high == 0xFFFFFF) refl where
  twice : 2 ^ suc left ≡ 2 * 2 ^ left
  twice = grind arith

  go : (b : Bool) → nat_lt (probe_between low high) n ≡ b → (c : Bool) → (high == 0xFFFFFF) ≡ c
      → (left_by (low, high) n).1 < (left_by (low, high) n).0 + 2 ^ left
  go true less true is =
      let top : high ≡ 0xFFFFFF = grind (arith, nat_tests) in
      let asked : probe_between low high ≡ 0xFFFFFE = ap (λ t. if t then 0xFFFFFE else (low + high) / 2) is in
      let fewer : high < probe_between low high + 1 + 2 ^ left = omega (arith, top, asked, power_above left) in
      rw (narrowed_no (low, high) n less) fewer
  go true less false is =
      let asked : probe_between low high ≡ (low + high) / 2 = ap (λ t. if t then 0xFFFFFE else (low + high) / 2) is in
      let fewer : high < probe_between low high + 1 + 2 ^ left = omega (arith, asked, few, twice, order) in
      rw (narrowed_no (low, high) n less) fewer
  go false less true is =
      let top : high ≡ 0xFFFFFF = grind (arith, nat_tests) in
      let asked : probe_between low high ≡ 0xFFFFFE = ap (λ t. if t then 0xFFFFFE else (low + high) / 2) is in
      let past : n ≤ probe_between low high = grind (arith, nat_tests) in
      rw (narrowed_yes (low, high) n less) (cases (whole top) asked (omega (arith, past, asked)))
    where
      cases : ((low ≡ 0) × (left ≡ 24)) ⊎ (low ≡ 0xFFFFFF) → probe_between low high ≡ 0xFFFFFE → n ≤ 0xFFFFFE → probe_between low high < low + 2 ^ left
      cases (inl first) asked most = let bits : 2 ^ left ≡ 2 ^ 24 = ap (λ m. 2 ^ m) first.1 in omega (arith, asked, first.0, bits)
      cases (inr last) asked most = absurd (omega (arith, last, from, most))
  go false less false is =
      let asked : probe_between low high ≡ (low + high) / 2 = ap (λ t. if t then 0xFFFFFE else (low + high) / 2) is in
      let fewer : probe_between low high < low + 2 ^ left = omega (arith, asked, few, twice, order) in
      rw (narrowed_yes (low, high) n less) fewer

pub left_few : (k n left : ℕ) → n ≤ 0xFFFFFF → k + left ≡ 25 → (left_of k n).1 < (left_of k n).0 + 2 ^ left
left_few zero n left small sum = let all : left ≡ 25 = omega (arith, sum) in subst (λ m. 0xFFFFFF < 0 + 2 ^ m) (sym all) (omega arith)
left_few (suc k) n left small sum =
    let within = left_within k n small in
    half_left (left_of k n).0 (left_of k n).1 n left (omega (arith, within.0, within.1)) (left_few k n (suc left) small (omega (arith, sum)))
    (whole k sum) within.0
  where
    whole : (j : ℕ) → suc j + left ≡ 25 → (left_of j n).1 ≡ 0xFFFFFF → ((left_of j n).0 ≡ 0) × (left ≡ 24) ⊎ ((left_of j n).0 ≡ 0xFFFFFF)
    whole zero sum top = inl (refl, omega (arith, sum))
    whole (suc j) sum top = inr (left_top j n small top)

-- led there answer by answer
pub record IsLed (k n low high : ℕ) : Type 0 where
  pub low_is : low ≡ (left_of k n).0
  pub high_is : high ≡ (left_of k n).1
  pub below : low < 2 ^ 24
  pub above : high < 2 ^ 24

pub led_none : (n : ℕ) → IsLed 0 n 0 0xFFFFFF
led_none n = record { low_is = refl; high_is = refl; below = omega arith; above = omega arith }

pub led_more : (k n low high asked next_low next_high : ℕ) (said : Bool) → n < 2 ^ 24 → IsLed k n low high → asked ≡ probe_between low high
    → said ≡ nat_le n asked
    → next_low ≡ (if said then low else asked + 1) → next_high ≡ (if said then asked else high) → IsLed (k + 1) n next_low next_high
led_more k n low high asked next_low next_high said small led is said_is low_is high_is =
    let within = left_within (suc k) n (omega (arith, small)) in
    let from : asked_of (left_of k n) ≡ asked = sym (is ∙ ap (λ l. probe_between l high) led.low_is ∙ ap (λ h. probe_between (left_of k n).0 h) led.high_is) in
    let both = go (nat_lt (asked_of (left_of k n)) n) refl from in
    rw add-one (record {
      low_is = both.0;
      high_is = both.1;
      below = rw both.0 (omega (arith, within.0, small));
      above = rw both.1 (omega (arith, within.2));
    })
  where
    go : (b : Bool) → nat_lt (asked_of (left_of k n)) n ≡ b → asked_of (left_of k n) ≡ asked
        → (next_low ≡ (left_by (left_of k n) n).0) × (next_high ≡ (left_by (left_of k n) n).1)
    go true less from =
        let told : said ≡ false = said_is ∙ (let past : nat_le n asked ≡ false = grind (arith, nat_tests) in past) in
        rw (narrowed_no (left_of k n) n less, from)
        (low_is ∙ ap (λ y. if y then low else asked + 1) told, high_is ∙ ap (λ y. if y then asked else high) told ∙ led.high_is)
    go false less from =
        let told : said ≡ true = said_is ∙ (let past : nat_le n asked ≡ true = grind (arith, nat_tests) in past) in
        rw (narrowed_yes (left_of k n) n less, from)
        (low_is ∙ ap (λ y. if y then low else asked + 1) told ∙ led.low_is, high_is ∙ ap (λ y. if y then asked else high) told)

-- THE SEARCH OF THREE NUMBERS
pub answers_length : (k n : ℕ) → length (answers_of k n) ≡ k
answers_length zero n = refl
answers_length (suc k) n =
    let more : length (answers_of k n ++ answer_of (left_of k n) n ∷ []) ≡ length (answers_of k n) + 1 = simp (length-append) in
    omega (arith, more, answers_length k n)

-- between their answers searches are so
pub is_search : (k low high p : ℕ) (step : Step) → Narrows low high (record { answers = answers_of k low; probe = p; step = step })
    → IsSearch (record { answers = answers_of k low; probe = p; step = step })
is_search k low high p step n = record {
  narrows = rw (n.low_is, n.high_is) n;
  told = rw (n.low_is, answers_length k low) refl;
}

-- what is left beside its answers
untouched_led : (k n : ℕ) → n ≤ 0xFFFFFF → (left_of k n).1 ≡ 0xFFFFFF → (left_of k n).0 < (left_of k n).1 → length (answers_of k n) ≡ 0
untouched_led zero n small top less = refl
untouched_led (suc k) n small top less = absurd (omega (arith, top, left_top k n small top, less))

pub narrows_led : (k n low high p : ℕ) (step : Step) → k ≤ 25 → n < 2 ^ 24 → low ≡ (left_of k n).0 → high ≡ (left_of k n).1 → low ≡ n → p < 0xFFFFFF
    → step ≡ step_between low high
    → (step ≡ Again → p ≡ probe_between low high)
    → Narrows low high (record { answers = answers_of k low; probe = p; step = step }) × (left_of k low ≡ (low, high))
narrows_led k n low high p step most small low_is high_is same below step_is probe_is =
    subst (λ m. Narrows low high (record { answers = answers_of k m; probe = p; step = step }) × (left_of k m ≡ (low, high))) (sym same) (
      record {
        low_is = told.0 ∙ sym low_is;
        high_is = told.1 ∙ sym high_is;
        step_is = step_is;
        probe_is = probe_is;
        order = omega (arith, low_is, high_is, within.0, within.1);
        top = omega (arith, high_is, within.2);
        untouched = λ e less. untouched_led k n fits (sym high_is ∙ e) (rw (← low_is, ← high_is) less);
        probe_top = below;
        count = rw (answers_length k n) most;
        few = (rest.0, rw (answers_length k n) rest.1, rw (low_is, high_is) (left_few k n rest.0 fits rest.1));
      },
      ap (λ l. (l, (left_of k n).1)) (sym low_is) ∙ ap (λ h. (low, h)) (sym high_is),
    )
  where
    fits : n ≤ 0xFFFFFF
    fits = omega (arith, small)

    told : (lowest (answers_of k n) ≡ (left_of k n).0) × (highest (answers_of k n) ≡ (left_of k n).1)
    told = told_left k n fits

    within : ((left_of k n).0 ≤ n) × (n ≤ (left_of k n).1) × ((left_of k n).1 ≤ 0xFFFFFF)
    within = left_within k n fits

    rest : (left : ℕ) × (k + left ≡ 25)
    rest = (25 - k, omega (arith, most))

-- what three numbers say of the search that has them
pub record IsOf (k n p : ℕ) (s : Search) : Type 0 where
  pub most : k ≤ 25
  pub below : p < 0xFFFFFF
  pub least : (left_of k n).0 ≡ n
  pub is : s ≡ record { answers = answers_of k n; probe = p; step = step_between n (left_of k n).1 }
  pub running : step_between n (left_of k n).1 ≡ Again → p ≡ probe_between n (left_of k n).1

pub is_of : (k n p : ℕ) (s : Search) → IsSearch s → length s.answers ≡ k → lowest s.answers ≡ n → s.probe ≡ p → IsOf k n p s
is_of k n p s is count least probe = record {
  most = subst (λ m. m ≤ 25) count is.narrows.count;
  below = subst (λ q. q < 0xFFFFFF) probe is.narrows.probe_top;
  least = low;
  is = same;
  running = λ again. sym probe ∙ is.narrows.probe_is (step ∙ again) ∙ ends;
} where
  fits : n ≤ 0xFFFFFF
  fits = subst (λ m. m ≤ 0xFFFFFF) least (omega (arith, is.narrows.order, is.narrows.top))

  answers : s.answers ≡ answers_of k n
  answers = is.told ∙ ap (λ m. answers_of m (lowest s.answers)) count ∙ ap (λ m. answers_of k m) least

  low : (left_of k n).0 ≡ n
  low = sym (told_left k n fits).0 ∙ ap lowest (sym answers) ∙ least

  high : highest s.answers ≡ (left_of k n).1
  high = ap highest answers ∙ (told_left k n fits).1

  step : s.step ≡ step_between n (left_of k n).1
  step = is.narrows.step_is ∙ ap (λ l. step_between l (highest s.answers)) least ∙ ap (λ h. step_between n h) high

  ends : probe_between (lowest s.answers) (highest s.answers) ≡ probe_between n (left_of k n).1
  ends = ap (λ l. probe_between l (highest s.answers)) least ∙ ap (λ h. probe_between n h) high

  same : s ≡ record { answers = answers_of k n; probe = p; step = step_between n (left_of k n).1 }
  same = ap (λ xs. record { answers = xs; probe = s.probe; step = s.step }) answers
      ∙ ap (λ q. record { answers = answers_of k n; probe = q; step = s.step }) probe
      ∙ ap (λ t. record { answers = answers_of k n; probe = p; step = t }) step

-- a probe is the number to ask next, unless there is nothing more to ask
pub asks_next : (low high p : ℕ) (t : Bool) → t ≡ (if nat_lt low high then p == probe_between low high else true) → t ≡ true → step_between low high ≡ Again
    → p ≡ probe_between low high
asks_next low high p t is asked again = go (nat_lt low high) (low == 0xFFFFFF) (sym is ∙ asked) again where
  go : (b c : Bool) → (if b then p == probe_between low high else true) ≡ true → (if b then Again else (if c then Nobody else Found low)) ≡ Again
      → p ≡ probe_between low high
  go true c same again = grind (arith, nat_tests)
  go false true same again = cc
  go false false same again = cc

pub asks_other : (low high p : ℕ) (t : Bool) → t ≡ (if nat_lt low high then p == probe_between low high else true) → t ≡ false
    → (step_between low high ≡ Again → p ≡ probe_between low high) → ⊥
asks_other low high p t is asked running = go (nat_lt low high) (low == 0xFFFFFF) (sym is ∙ asked) running where
  go : (b c : Bool) → (if b then p == probe_between low high else true) ≡ false
      → ((if b then Again else (if c then Nobody else Found low)) ≡ Again → p ≡ probe_between low high) → ⊥
  go true c other running = let same : p ≡ probe_between low high = running refl in grind (arith, nat_tests)
  go false c other running = cc
