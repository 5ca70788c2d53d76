use Rattle.std.proofs.Common.{◌≡◌, ℕ, ◌+◌, ◌<◌, ◌≤◌, Bool, true, false, [], ◌∷◌, ◌++◌, refl, sym, ◌∙◌, arith, length, nat_lt, ◌==◌, if◌then◌else◌}
use Rattle.std.proofs.lemmas.Bool.Decides.{nat_tests}
use Rattle.dali_search.specs.Least.{Search, at_first, lowest, highest, step_between, probe_between, next_probe, answered, IsBelow, Agrees, Says, NumberOf}
use Rattle.dali_search.specs.{Narrowing.IsNarrowing, declared.step.Step.TheVariants.Again, declared.step.Step.TheVariants.Found}
use Rattle.dali_search.{specs.declared.step.Step.TheVariants.Nobody, proofs.Narrowing.lowest_yes}
use Rattle.dali_search.proofs.Narrowing.{lowest_no, highest_yes, highest_no, narrows_at_first, narrows_more, probe_inside, least_told, more_to_come, below_told}

-- WHAT IS TRUE OF EACH SEARCH THAT WAS ANSWERED, over the definitions alone

pub begins : IsNarrowing at_first
begins = narrows_at_first

-- the numbers that are left after one more answer
left_low : (s : Search) (said : Bool) → IsNarrowing s → s.step ≡ Again
    → lowest (s.answers ++ (s.probe, said) ∷ []) ≡ (if said then lowest s.answers else s.probe + 1)
left_low s true n running = lowest_yes s.answers s.probe
left_low s false n running =
    let inside = probe_inside (lowest s.answers) (highest s.answers) s n running in
    lowest_no s.answers s.probe (omega (arith, inside.0))

left_high : (s : Search) (said : Bool) → IsNarrowing s → s.step ≡ Again
    → highest (s.answers ++ (s.probe, said) ∷ []) ≡ (if said then s.probe else highest s.answers)
left_high s true n running =
    let inside = probe_inside (lowest s.answers) (highest s.answers) s n running in
    highest_yes s.answers s.probe (omega (arith, inside.1))
left_high s false n running = highest_no s.answers s.probe

asked_next : (low high p : ℕ) → next_probe (step_between low high) p (probe_between low high) ≡ (if nat_lt low high then probe_between low high else p)
asked_next low high p = go (nat_lt low high) (low == 0xFFFFFF) (probe_between low high) where
  go : (b c : Bool) (q : ℕ) → next_probe (if b then Again else (if c then Nobody else Found low)) p q ≡ (if b then q else p)
  go true c q = refl
  go false true q = refl
  go false false q = refl

pub goes_on : (s : Search) (said : Bool) → IsNarrowing s → s.step ≡ Again → IsNarrowing (answered s said)
goes_on s said n running =
    narrows_more (lowest s.answers) (highest s.answers) (lowest (answered s said).answers) (highest (answered s said).answers) s
    (answered s said) said n running refl
    (left_low s said n running) (left_high s said n running) refl
    (asked_next (lowest (answered s said).answers) (highest (answered s said).answers) s.probe)

pub says_least : (s : Search) → IsNarrowing s → (has : ℕ → Bool) → IsBelow has 0xFFFFFF → Agrees has s.answers → Says has s.step
says_least s n = least_told (lowest s.answers) (highest s.answers) s n

pub ends : (s : Search) → IsNarrowing s → s.step ≡ Again → length s.answers < 25
ends s n running = more_to_come (lowest s.answers) (highest s.answers) s n running

pub count : (s : Search) → IsNarrowing s → length s.answers ≤ 25
count s n = n.count

pub asks_below : (s : Search) → IsNarrowing s → s.probe < 0xFFFFFF
asks_below s n = n.probe_top

pub finds_below : (s : Search) → IsNarrowing s → NumberOf s.step (λ r. r < 0xFFFFFF)
finds_below s n = below_told (lowest s.answers) (highest s.answers) s n

nobody_from : (low high : ℕ) → step_between low high ≡ Nobody → low ≡ 0xFFFFFF
nobody_from low high e = go (nat_lt low high) (low == 0xFFFFFF) refl e where
  go : (b c : Bool) → (low == 0xFFFFFF) ≡ c → (if b then Again else (if c then Nobody else Found low)) ≡ Nobody → low ≡ 0xFFFFFF
  go true c is e = absurd (cc)
  go false true is e = grind (arith, nat_tests)
  go false false is e = absurd (cc)

pub nobody : (s : Search) (said : Bool) → IsNarrowing s → s.step ≡ Again → (answered s said).step ≡ Nobody → (said ≡ false) × (s.probe ≡ 0xFFFFFE)
nobody s said n running e = go said (left_low s said n running) (nobody_from _ _ e) where
  go : (said : Bool) → lowest (s.answers ++ (s.probe, said) ∷ []) ≡ (if said then lowest s.answers else s.probe + 1)
      → lowest (s.answers ++ (s.probe, said) ∷ []) ≡ 0xFFFFFF
      → (said ≡ false) × (s.probe ≡ 0xFFFFFE)
  go true is none =
      let inside = probe_inside (lowest s.answers) (highest s.answers) s n running in
      let at : lowest s.answers ≡ 0xFFFFFF = sym is ∙ none in
      absurd (omega (arith, inside.0, at, n.probe_top))
  go false is none = let at : s.probe + 1 ≡ 0xFFFFFF = sym is ∙ none in (refl, omega (arith, at))
