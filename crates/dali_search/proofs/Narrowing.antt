use Rattle.std.proofs.Common.{◌≡◌, ℕ, ◌+◌, ◌*◌, ◌/◌, ◌^◌, ◌<◌, ◌≤◌, Bool, true, false, List, [], ◌∷◌, ◌++◌, refl, sym, ap, subst, ◌∙◌, arith, length}
use Rattle.std.proofs.Common.{length-append, add-one, nat_lt, max, min, ◌==◌, if◌then◌else◌, zero, suc}
use Rattle.std.proofs.lemmas.Bool.Decides.{nat_tests}
use Rattle.dali_search.specs.Least.{Search, IsBelow, HasAtMost, Agrees, IsLeast, Says, NumberOf, lowest, highest, step_between, step_after, probe_between}
use Rattle.dali_search.specs.{Least.probe_after, Narrowing.Narrows, Narrowing.left_of, Narrowing.answers_of, declared.step.Step.Step}
use Rattle.dali_search.specs.declared.step.Step.TheVariants.{Again, Found, Nobody}
use Rattle.dali_search.proofs.Heard.{heard_more}

-- a further answer
pub lowest_yes : (xs : List (ℕ × Bool)) (p : ℕ) → lowest (xs ++ (p, true) ∷ []) ≡ lowest xs
lowest_yes [] p = refl
lowest_yes ((q, true) ∷ xs) p = lowest_yes xs p
lowest_yes ((q, false) ∷ xs) p = ap (λ l. max (q + 1) l) (lowest_yes xs p)

pub highest_no : (xs : List (ℕ × Bool)) (p : ℕ) → highest (xs ++ (p, false) ∷ []) ≡ highest xs
highest_no [] p = refl
highest_no ((q, true) ∷ xs) p = ap (λ h. min q h) (highest_no xs p)
highest_no ((q, false) ∷ xs) p = highest_no xs p

above_both : (q l p : ℕ) → max (q + 1) l ≤ p → l ≤ p × q + 1 ≤ p
above_both q l p h = (grind (arith, nat_tests), grind (arith, nat_tests))

pub lowest_no : (xs : List (ℕ × Bool)) (p : ℕ) → lowest xs ≤ p + 1 → lowest (xs ++ (p, false) ∷ []) ≡ p + 1
lowest_no [] p h = grind (arith, nat_tests)
lowest_no ((q, true) ∷ xs) p h = lowest_no xs p h
lowest_no ((q, false) ∷ xs) p h =
    let both : lowest xs ≤ p + 1 × q + 1 ≤ p + 1 = above_both q (lowest xs) (p + 1) h in
    rw (lowest_no xs p both.0) (at_top q p both.1)
  where
    at_top : (q p : ℕ) → q + 1 ≤ p + 1 → max (q + 1) (p + 1) ≡ p + 1
    at_top q p h = grind (arith, nat_tests)

below_both : (q h p : ℕ) → p ≤ min q h → p ≤ h × p ≤ q
below_both q h p most = (grind (arith, nat_tests), grind (arith, nat_tests))

pub highest_yes : (xs : List (ℕ × Bool)) (p : ℕ) → p ≤ highest xs → highest (xs ++ (p, true) ∷ []) ≡ p
highest_yes [] p h = grind (arith, nat_tests)
highest_yes ((q, true) ∷ xs) p h =
    let both : p ≤ highest xs × p ≤ q = below_both q (highest xs) p h in
    rw (highest_yes xs p both.0) (at_bottom q p both.1)
  where
    at_bottom : (q p : ℕ) → p ≤ q → min q p ≡ p
    at_bottom q p h = grind (arith, nat_tests)
highest_yes ((q, false) ∷ xs) p h = highest_yes xs p h

-- what the answers say of a set that agrees with them
above_lowest : (has : ℕ → Bool) (xs : List (ℕ × Bool)) (m : ℕ) → Agrees has xs → has m ≡ true → lowest xs ≤ m
above_lowest has [] m agrees member = omega arith
above_lowest has ((q, true) ∷ xs) m agrees member = above_lowest has xs m agrees.1 member
above_lowest has ((q, false) ∷ xs) m agrees member =
    let later : lowest xs ≤ m = above_lowest has xs m agrees.1 member in
    let past : m ≤ q → ⊥ = λ small. agrees.0 (m, member, small) in
    above q (lowest xs) m later past
  where
    above : (q l m : ℕ) → l ≤ m → (m ≤ q → ⊥) → max (q + 1) l ≤ m
    above q l m h past = grind (arith, nat_tests)

within_highest : (has : ℕ → Bool) (xs : List (ℕ × Bool)) → Agrees has xs → highest xs < 0xFFFFFF → HasAtMost has (highest xs)
within_highest has [] agrees small = absurd (omega arith)
within_highest has ((q, false) ∷ xs) agrees small = within_highest has xs agrees.1 small
within_highest has ((q, true) ∷ xs) agrees small = go (nat_lt q (highest xs)) refl (within_highest has xs agrees.1) where
  go : (b : Bool) → nat_lt q (highest xs) ≡ b → (highest xs < 0xFFFFFF → HasAtMost has (highest xs)) → HasAtMost has (min q (highest xs))
  go true is later = subst (HasAtMost has) (let least : q ≡ min q (highest xs) = grind (arith, nat_tests) in least) agrees.0
  go false is later =
      let least : highest xs ≡ min q (highest xs) = grind (arith, nat_tests) in
      subst (HasAtMost has) least (later (subst (λ h. h < 0xFFFFFF) (sym least) small))

pub says_after : (has : ℕ → Bool) (xs : List (ℕ × Bool)) (low high : ℕ) → lowest xs ≡ low → highest xs ≡ high → low ≤ high → high ≤ 0xFFFFFF
    → IsBelow has 0xFFFFFF → Agrees has xs
    → Says has (step_between low high)
says_after has xs low high low_is high_is order top below agrees = go (nat_lt low high) refl where
  above : (m : ℕ) → has m ≡ true → low ≤ m
  above m member = subst (λ l. l ≤ m) low_is (above_lowest has xs m agrees member)

  least : low ≡ high → (low ≡ 0xFFFFFF → ⊥) → IsLeast has low
  least same drawn =
      let drawn_high : high < 0xFFFFFF = omega (arith, same, drawn) in
      let found : HasAtMost has high = subst (HasAtMost has) high_is (within_highest has xs agrees (subst (λ h. h < 0xFFFFFF) (sym high_is) drawn_high)) in
      let from : low ≤ found.0 = above found.0 found.1 in
      let to : found.0 ≤ high = found.2 in
      let is : found.0 ≡ low = omega (arith, same, from, to) in
      (subst (λ n. has n ≡ true) is found.1, above)

  ended : low ≡ high → (b : Bool) → (low == 0xFFFFFF) ≡ b → Says has (if b then Nobody else Found low)
  ended same true is = λ m member.
      let past : low ≤ m = above m member in
      let small : m < 0xFFFFFF = below m member in
      grind (arith, nat_tests)
  ended same false is = least same (λ e. grind (arith, nat_tests))

  go : (b : Bool) → nat_lt low high ≡ b → Says has (if b then Again else (if low == 0xFFFFFF then Nobody else Found low))
  go true is = tt
  go false is = ended (grind (arith, nat_tests)) (low == 0xFFFFFF) refl

-- a search that goes on has a number to ask that lies between the numbers that are left
probe_between_both : (low high : ℕ) → low < high → high ≤ 0xFFFFFF → (high ≡ 0xFFFFFF → low ≡ 0) → low ≤ probe_between low high × probe_between low high < high
probe_between_both low high less top untouched = (grind (arith, nat_tests), grind (arith, nat_tests))

pub narrows_at_first : Narrows 0 0xFFFFFF (record { answers = []; probe = 0xFFFFFE; step = Again })
narrows_at_first = record {
  low_is = refl;
  high_is = refl;
  step_is = refl;
  probe_is = λ _. refl;
  order = omega arith;
  top = omega arith;
  untouched = λ _ _. refl;
  probe_top = omega arith;
  count = omega arith;
  few = (25, refl, omega arith);
}

again_less : (low high : ℕ) → step_between low high ≡ Again → low < high
again_less low high e = go (nat_lt low high) (low == 0xFFFFFF) refl e where
  go : (b c : Bool) → nat_lt low high ≡ b → (if b then Again else (if c then Nobody else Found low)) ≡ Again → low < high
  go true c is e = grind (arith, nat_tests)
  go false true is e = cc
  go false false is e = cc

nothing_asked : (xs : List (ℕ × Bool)) → length xs ≡ 0 → lowest xs ≡ 0
nothing_asked [] e = refl
nothing_asked (x ∷ xs) e = absurd (omega (arith, e))

-- each answer leaves at most half of the numbers, and the first one less than 2 ^ 24
few_more : (low high p count : ℕ) → low < high → high ≤ 0xFFFFFF → p ≡ probe_between low high → (high ≡ 0xFFFFFF → count ≡ 0) → (high ≡ 0xFFFFFF → low ≡ 0)
    → (left : ℕ) → count + left ≡ 25 → high < low + 2 ^ left
    → (rest : ℕ) × (count + 1 + rest ≡ 25) × (p < low + 2 ^ rest) × (high < (p + 1) + 2 ^ rest)
few_more low high p count less top is first first_low zero sum few = absurd (omega (arith, few, less))
few_more low high p count less top is first first_low (suc rest) sum few =
    let both : (p < low + 2 ^ rest) × (high < (p + 1) + 2 ^ rest) = go (high == 0xFFFFFF) refl is in
    (rest, omega (arith, sum), both.0, both.1)
  where
    go : (b : Bool) → (high == 0xFFFFFF) ≡ b → p ≡ (if b then 0xFFFFFE else (low + high) / 2) → (p < low + 2 ^ rest) × (high < (p + 1) + 2 ^ rest)
    go true whole is =
        let at_top : high ≡ 0xFFFFFF = grind (arith, nat_tests) in
        let none : count ≡ 0 = first at_top in
        let from : low ≡ 0 = first_low at_top in
        let most : rest ≡ 24 = omega (arith, none, sum) in
        let bits : 2 ^ rest ≡ 2 ^ 24 = ap (λ n. 2 ^ n) most in
        (omega (arith, is, from, bits), omega (arith, at_top, is, from, bits))
    go false whole is =
        let twice : 2 ^ suc rest ≡ 2 * 2 ^ rest = grind arith in
        (omega (arith, is, few, twice), omega (arith, is, few, twice, less))

next_probe : (low high p q : ℕ) (step : Step) → step ≡ step_between low high → q ≡ (if nat_lt low high then probe_between low high else p) → step ≡ Again
    → q ≡ probe_between low high
next_probe low high p q step is q_is running = go (nat_lt low high) refl (again_less low high (sym is ∙ running)) q_is where
  go : (b : Bool) → nat_lt low high ≡ b → low < high → q ≡ (if b then probe_between low high else p) → q ≡ probe_between low high
  go true is less e = e
  go false is less e = grind (arith, nat_tests)

next_probe_small : (low high p q : ℕ) → q ≡ (if nat_lt low high then probe_between low high else p) → high ≤ 0xFFFFFF → p < 0xFFFFFF → q < 0xFFFFFF
next_probe_small low high p q is top small = grind (arith, nat_tests)

at_top : (low high p : ℕ) → p ≡ probe_between low high → high ≡ 0xFFFFFF → p ≡ 0xFFFFFE
at_top low high p is e = grind (arith, nat_tests)

low_at_first : (low high : ℕ) (s : Search) → Narrows low high s → low < high → high ≡ 0xFFFFFF → low ≡ 0
low_at_first low high s n less e = sym n.low_is ∙ nothing_asked s.answers (n.untouched e less)

pub probe_inside : (low high : ℕ) (s : Search) → Narrows low high s → s.step ≡ Again → low ≤ s.probe × s.probe < high
probe_inside low high s n running =
    let less : low < high = again_less low high (sym n.step_is ∙ running) in
    subst (λ p. low ≤ p × p < high) (sym (n.probe_is running)) (probe_between_both low high less n.top (low_at_first low high s n less))

pub narrows_more : (low high next_low next_high : ℕ) (s t : Search) (said : Bool) → Narrows low high s → s.step ≡ Again
    → t.answers ≡ s.answers ++ (s.probe, said) ∷ []
    → next_low ≡ (if said then low else s.probe + 1) → next_high ≡ (if said then s.probe else high)
    → t.step ≡ step_between next_low next_high
    → t.probe ≡ (if nat_lt next_low next_high then probe_between next_low next_high else s.probe)
    → Narrows next_low next_high t
narrows_more low high next_low next_high s t said n running answers low_is high_is step probe =
    let less : low < high = again_less low high (sym n.step_is ∙ running) in
    let asked : s.probe ≡ probe_between low high = n.probe_is running in
    let first_low : high ≡ 0xFFFFFF → low ≡ 0 = low_at_first low high s n less in
    let inside : low ≤ s.probe × s.probe < high = probe_inside low high s n running in
    let one_more : length t.answers ≡ length s.answers + 1 = ap length answers ∙ simp (length-append) in
    let few = few_more low high s.probe (length s.answers) less n.top asked (λ e. n.untouched e less) first_low n.few.0 n.few.1 n.few.2 in
    go said answers low_is high_is less asked first_low inside one_more few
  where
    go : (said : Bool) → t.answers ≡ s.answers ++ (s.probe, said) ∷ [] → next_low ≡ (if said then low else s.probe + 1)
        → next_high ≡ (if said then s.probe else high)
        → low < high → s.probe ≡ probe_between low high → (high ≡ 0xFFFFFF → low ≡ 0) → low ≤ s.probe × s.probe < high → length t.answers ≡ length s.answers + 1
        → (rest : ℕ) × (length s.answers + 1 + rest ≡ 25) × (s.probe < low + 2 ^ rest) × (high < (s.probe + 1) + 2 ^ rest)
        → Narrows next_low next_high t
    go true answers low_is high_is less asked first_low inside one_more few = record {
      low_is = ap lowest answers ∙ lowest_yes s.answers s.probe ∙ n.low_is ∙ sym low_is;
      high_is = ap highest answers ∙ highest_yes s.answers s.probe (subst (λ h. s.probe ≤ h) (sym n.high_is) (omega (arith, inside.1))) ∙ sym high_is;
      step_is = step;
      probe_is = next_probe next_low next_high s.probe t.probe t.step step probe;
      order = omega (arith, low_is, high_is, inside.0);
      top = omega (arith, high_is, n.probe_top);
      untouched = λ e _. absurd (omega (arith, e, high_is, n.probe_top));
      probe_top = next_probe_small next_low next_high s.probe t.probe probe (omega (arith, high_is, n.probe_top)) n.probe_top;
      count = omega (arith, one_more, few.1);
      few = (few.0, rw one_more few.1, rw (low_is, high_is) few.2);
    }
    go false answers low_is high_is less asked first_low inside one_more few = record {
      low_is = ap lowest answers ∙ lowest_no s.answers s.probe (subst (λ l. l ≤ s.probe + 1) (sym n.low_is) (omega (arith, inside.0))) ∙ sym low_is;
      high_is = ap highest answers ∙ highest_no s.answers s.probe ∙ n.high_is ∙ sym high_is;
      step_is = step;
      probe_is = next_probe next_low next_high s.probe t.probe t.step step probe;
      order = omega (arith, low_is, high_is, inside.1);
      top = omega (arith, high_is, n.top);
      untouched = λ e later. absurd (omega (arith, e, later, low_is, high_is, at_top low high s.probe asked (sym high_is ∙ e)));
      probe_top = next_probe_small next_low next_high s.probe t.probe probe (omega (arith, high_is, n.top)) n.probe_top;
      count = omega (arith, one_more, few.1);
      few = (few.0, rw one_more few.1, rw (low_is, high_is) few.3);
    }

-- what callers learn
pub step_told : (low high : ℕ) (s : Search) → Narrows low high s → s.step ≡ step_after s.answers
step_told low high s n = rw (n.low_is, n.high_is) n.step_is

pub probe_told : (low high : ℕ) (s : Search) → Narrows low high s → s.step ≡ Again → s.probe ≡ probe_after s.answers
probe_told low high s n running = rw (n.low_is, n.high_is) (n.probe_is running)

pub least_told : (low high : ℕ) (s : Search) → Narrows low high s → (has : ℕ → Bool) → IsBelow has 0xFFFFFF → Agrees has s.answers → Says has s.step
least_told low high s n has below agrees =
    subst (Says has) (sym n.step_is) (says_after has s.answers low high n.low_is n.high_is n.order n.top below agrees)

pub more_to_come : (low high : ℕ) (s : Search) → Narrows low high s → s.step ≡ Again → length s.answers < 25
more_to_come low high s n running = go n.few.0 n.few.1 n.few.2 where
  go : (left : ℕ) → length s.answers + left ≡ 25 → high < low + 2 ^ left → length s.answers < 25
  go zero sum few = absurd (let less : low < high = again_less low high (sym n.step_is ∙ running) in omega (arith, few, less))
  go (suc left) sum few = omega (arith, sum)

pub below_told : (low high : ℕ) (s : Search) → Narrows low high s → NumberOf s.step (λ r. r < 0xFFFFFF)
below_told low high s n = subst (λ step. NumberOf step (λ r. r < 0xFFFFFF)) (sym n.step_is) (go (nat_lt low high) (low == 0xFFFFFF) refl refl) where
  go : (b c : Bool) → nat_lt low high ≡ b → (low == 0xFFFFFF) ≡ c → NumberOf (if b then Again else (if c then Nobody else Found low)) (λ r. r < 0xFFFFFF)
  go true c less is = tt
  go false true less is = tt
  go false false less is = let top : high ≤ 0xFFFFFF = n.top in let order : low ≤ high = n.order in grind (arith, nat_tests)

-- one more answer, as it is told by the number of answers and the least number that they leave
heard_next : (k low high next_low next_high : ℕ) (s : Search) (said : Bool) → Narrows low high s → s.step ≡ Again → left_of k low ≡ (low, high)
    → next_low ≡ (if said then low else s.probe + 1) → next_high ≡ (if said then s.probe else high)
    → (left_of (k + 1) next_low ≡ (next_low, next_high)) × (answers_of (k + 1) next_low ≡ answers_of k low ++ (s.probe, said) ∷ [])
heard_next k low high next_low next_high s said n running here low_is high_is =
    let less : low < high = again_less low high (sym n.step_is ∙ running) in
    rw add-one (heard_more k low high s.probe next_low next_high said here less n.top (n.probe_is running) (probe_inside low high s n running) low_is high_is)

pub heard_told : (k low high next_low next_high p : ℕ) (step : Step) (said : Bool)
    → Narrows low high (record { answers = answers_of k low; probe = p; step = step }) → step ≡ Again → left_of k low ≡ (low, high)
    → next_low ≡ (if said then low else p + 1) → next_high ≡ (if said then p else high)
    → answers_of (k + 1) next_low ≡ answers_of k low ++ (p, said) ∷ []
heard_told k low high next_low next_high p step said n running here low_is high_is =
    (heard_next k low high next_low next_high (record { answers = answers_of k low; probe = p; step = step }) said n running here low_is high_is).1

pub stands_more : (k low high next_low next_high p q : ℕ) (step next : Step) (said : Bool)
    → Narrows low high (record { answers = answers_of k low; probe = p; step = step }) → step ≡ Again → left_of k low ≡ (low, high)
    → next_low ≡ (if said then low else p + 1) → next_high ≡ (if said then p else high)
    → next ≡ step_between next_low next_high → q ≡ (if nat_lt next_low next_high then probe_between next_low next_high else p)
    → Narrows next_low next_high (record { answers = answers_of (k + 1) next_low; probe = q; step = next }) × (left_of (k + 1) next_low ≡ (next_low, next_high))
stands_more k low high next_low next_high p q step next said n running here low_is high_is next_is q_is =
    let s : Search = record { answers = answers_of k low; probe = p; step = step } in
    let heard = heard_next k low high next_low next_high s said n running here low_is high_is in (
      narrows_more low high next_low next_high s (record { answers = answers_of (k + 1) next_low; probe = q; step = next })
          said n running heard.1 low_is high_is next_is q_is,
      heard.0,
    )
