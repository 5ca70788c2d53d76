use Rattle.std.proofs.Common.{◌≡◌, inl, inr, ℕ, ◌+◌, ◌-◌, ◌*◌, ◌<◌, ◌≤◌, Bool, true, false, refl, sym, subst, ◌∙◌, arith, nat_lt, lit≤, ◌==◌, min}
use Rattle.std.proofs.Common.{if◌then◌else◌}
use Rattle.std.proofs.lemmas.Bool.Decides.{nat_tests}
use Rattle.dali_search.specs.Ascending.{Ascent, IsAscent, apart, asked_next, leads_to, is_bounded, told_yes, told_no, ascended, ascent_at_first, above}
use Rattle.dali_search.specs.Questions.{bytes_apart, Asking, has_room, frames_to_ask, room_left, asking_next, IsUnderWay, IsTrueWay, steps_to_somebody}
use Rattle.dali_search.specs.Questions.{thirds_to_somebody, thirds_to_nobody, thirds_of_room, thirds_of_bits, thirds_of_last, steps_left, thirds_left}
use Rattle.dali_search.{specs.declared.step.Step.TheVariants.Again, proofs.Ascents.IsHalving, proofs.Ascents.IsStepping}
use Rattle.dali_search.proofs.{Ascents.going_on, Ascents.asked_drawn, Ascents.from_fourth, Bytes.same_bytes, Bytes.three_most, Questions.above_begun}
use Rattle.dali_search.proofs.Questions.{apart_most_of, begun_is, first_begun, last_most, most_bits, question_costs, takes_new, takes_three, taken, Costs}

-- WHAT THE QUESTIONS COST IF ALL ANSWERS ARE TRUE.

-- if no gear was found, FFFFFE is asked
unfound_asks : (a : Ascent) → is_bounded a ≡ false → a.found ≡ 0 → asked_next a ≡ 0xFFFFFE
unfound_asks a unknown none = rw (unknown, none) refl

unknown_of : (a : Ascent) → IsStepping a → is_bounded a ≡ false
unknown_of a s = let top : 0xFFFFFF ≤ a.high = s.top in grind (arith, nat_tests)

-- a step up is taken, and what it takes is at most this, less if it is the first
step_takes : (a : Ascent) (q : Asking) → IsUnderWay a q → IsStepping a
    → taken (bytes_apart q.number (asked_next a)) q.room + (if a.steps == 0 then 8 else 0) ≤ thirds_of_room q.room + 16
step_takes a q here s = go (a.steps == 0) refl where
  bytes : ℕ
  bytes = bytes_apart q.number (asked_next a)

  go : (b : Bool) → (a.steps == 0) ≡ b → taken bytes q.room + (if b then 8 else 0) ≤ thirds_of_room q.room + 16
  go true is =
      let none : q.room ≡ 0 = here.first (let first : a.steps ≡ 0 = grind (arith, nat_tests) in first) (unknown_of a s) in
      let new : taken bytes q.room ≤ thirds_of_room q.room + 8 = takes_new bytes q.room none in
      sum (taken bytes q.room) (thirds_of_room q.room) new where
        sum : (t r : ℕ) → t ≤ r + 8 → t + 8 ≤ r + 16
        sum t r less = omega (arith, less)
  go false is =
      let three : taken bytes q.room ≤ thirds_of_room q.room + 16 = takes_three bytes q.room (three_most q.number (asked_next a)) here.room in
      sum (taken bytes q.room) (thirds_of_room q.room) three where
        sum : (t r : ℕ) → t ≤ r + 16 → t + 0 ≤ r + 16
        sum t r less = omega (arith, less)

eight_most : (b : Bool) → (if b then 8 else 0) ≤ 8
eight_most true = omega arith
eight_most false = omega arith

-- Some member is left: a no is none of FFFFFE.
abbrev pub CostsSomebody : Ascent → Asking → Bool → Type 0
CostsSomebody a q answer =
    (3 * frames_to_ask q (asked_next a) + thirds_to_somebody (ascended a answer) (asking_next q (asked_next a)) ≤ thirds_to_somebody a q)
    × IsTrueWay (ascended a answer) (asking_next q (asked_next a))

same_bounded : (a : Ascent) (q : Asking) → is_bounded a ≡ true → thirds_to_somebody a q ≡ thirds_left a q
same_bounded a q bounded = rw bounded refl

unsilent : (a : Ascent) (answer : Bool) → (answer ≡ false → asked_next a ≡ 0xFFFFFE → ⊥) → a.silent ≡ 0 → (ascended a answer).silent ≡ 0
unsilent a true other none = none
unsilent a false other none = go (asked_next a == 0xFFFFFE) refl where
  go : (b : Bool) → (asked_next a == 0xFFFFFE) ≡ b → (if b then a.silent + 1 else a.silent) ≡ 0
  go true is = absurd (other refl (let same : asked_next a ≡ 0xFFFFFE = grind (arith, nat_tests) in same))
  go false is = none

pub somebody_costs : (a : Ascent) (q : Asking) (answer : Bool) → IsTrueWay a q → leads_to a ≡ Again → a.silent ≡ 0
    → (answer ≡ false → asked_next a ≡ 0xFFFFFE → ⊥) → CostsSomebody a q answer
somebody_costs a q answer here again none other = (
  elim (going_on a again) [
    | inl h ↦ halving h answer
    | inr s ↦ stepping s answer other
  ],
  record {
    way = costs.1;
    fresh = λ unfound silent open_end. absurd (never answer other unfound open_end);
    again = λ unfound once. absurd (let still : (ascended a answer).silent ≡ 0 = unsilent a answer other none in omega (arith, once, still));
  },
) where
  -- if no gear was found, FFFFFE is asked, so the answer is a yes
  never : (answer : Bool) → (answer ≡ false → asked_next a ≡ 0xFFFFFE → ⊥) → (ascended a answer).found ≡ 0 → is_bounded (ascended a answer) ≡ false → ⊥
  never true other unfound open_end = grind (arith, nat_tests, asked_drawn a here.way.is again)
  never false other unfound open_end = other refl (unfound_asks a open_end unfound)

  costs : Costs a q answer
  costs = question_costs a q answer here.way again

  Less : Bool → Type 0
  Less answer = 3 * frames_to_ask q (asked_next a) + thirds_to_somebody (ascended a answer) (asking_next q (asked_next a)) ≤ thirds_to_somebody a q

  drawn : asked_next a < 0xFFFFFF
  drawn = asked_drawn a here.way.is again

  halving : IsHalving a → (answer : Bool) → Less answer
  halving h true =
      let bounded : is_bounded a ≡ true = (let small : a.high < 0xFFFFFF = h.small in grind (arith, nat_tests)) in
      let still : is_bounded (ascended a true) ≡ true = grind (arith, nat_tests, drawn) in
      rw (same_bounded a q bounded, same_bounded (ascended a true) (asking_next q (asked_next a)) still) (question_costs a q true here.way again).0
  halving h false =
      let bounded : is_bounded a ≡ true = (let small : a.high < 0xFFFFFF = h.small in grind (arith, nat_tests)) in
      rw (same_bounded a q bounded, same_bounded (ascended a false) (asking_next q (asked_next a)) bounded) (question_costs a q false here.way again).0

  join : (frames room left more : ℕ) → 3 * frames + room + left ≤ more → 3 * frames + (room + left) ≤ more
  join frames room left more less = omega (arith, less)

  yes_sum : (t r b l less n : ℕ) → t + less ≤ r + 16 → b ≤ 202 → l ≤ 5 → 1 ≤ n → less ≤ 8 → t + (b + l) ≤ r + (16 * n + 207 - less)
  yes_sum t r b l less n one two three four five = omega (arith, one, two, three, four, five)

  no_sum : (t r less n m : ℕ) → t + less ≤ r + 16 → m + 1 ≤ n → less ≤ 8 → t + (16 * m + 207 - 0) ≤ r + (16 * n + 207 - less)
  no_sum t r less n m one two three = omega (arith, one, two, three)

  stepping : IsStepping a → (answer : Bool) → (answer ≡ false → asked_next a ≡ 0xFFFFFE → ⊥) → Less answer
  stepping s true other =
      subst (λ left. 3 * frames_to_ask q (asked_next a) + left ≤ thirds_to_somebody a q)
      (sym (yes_left (asked_next a) (room_left q (asked_next a)) yes_bounded))
      (rw before (join _ _ _ _ (yes_sum _ _ _ _ _ _ (step_takes a q here.way s)
      (most_bits (apart a.low (asked_next a)) (apart_most_of a.low (asked_next a))) (last_most (asked_next a)) some (eight_most (a.steps == 0))))) where
        unknown : is_bounded a ≡ false
        unknown = unknown_of a s

        before : thirds_to_somebody a q ≡ thirds_of_room q.room + (16 * steps_to_somebody a + 207 - (if a.steps == 0 then 8 else 0))
        before = rw unknown refl

        yes_bounded : nat_lt (asked_next a) 0xFFFFFF ≡ true
        yes_bounded = grind (arith, nat_tests, drawn)

        yes_left : (asked room : ℕ) → nat_lt asked 0xFFFFFF ≡ true
            → thirds_to_somebody (told_yes a asked) (record { number = asked; room = room })
            ≡ thirds_of_room room + (thirds_of_bits (apart a.low asked) + thirds_of_last asked)
        yes_left asked room below = rw below refl

        some : 1 ≤ steps_to_somebody a
        some = go (a.found == 0) where
          most : a.steps ≤ 4 + a.silent
          most = here.way.is.steps

          go : (b : Bool) → 1 ≤ (if b then 1 else 5 - a.steps)
          go true = omega arith
          go false = omega (arith, most, none)
  stepping s false other =
      subst (λ left. 3 * frames_to_ask q (asked_next a) + left ≤ thirds_to_somebody a q) (sym (no_left (asked_next a) (room_left q (asked_next a))))
      (rw before (join _ _ _ _ (no_sum _ _ _ _ _ (step_takes a q here.way s) fewer (eight_most (a.steps == 0))))) where
        unknown : is_bounded a ≡ false
        unknown = unknown_of a s

        not_last : asked_next a ≡ 0xFFFFFE → ⊥
        not_last = other refl

        found : (a.found == 0) ≡ false
        found = unequal (a.found == 0) refl where
          unequal : (b : Bool) → (a.found == 0) ≡ b → b ≡ false
          unequal true is = absurd (not_last (unfound_asks a unknown (let none : a.found ≡ 0 = grind (arith, nat_tests) in none)))
          unequal false is = refl

        early : 4 ≤ a.steps → ⊥
        early late = not_last (s.asked ∙ from_fourth a here.way.ahead late)

        before : thirds_to_somebody a q ≡ thirds_of_room q.room + (16 * (5 - a.steps) + 207 - (if a.steps == 0 then 8 else 0))
        before = rw (unknown, found) refl

        later : (a.steps + 1 == 0) ≡ false
        later = grind (arith, nat_tests)

        no_left : (asked room : ℕ) → thirds_to_somebody (told_no a asked) (record { number = asked; room = room })
            ≡ thirds_of_room room + (16 * (5 - (a.steps + 1)) + 207 - 0)
        no_left asked room = rw (unknown, here.way.ahead, later, found) refl

        fewer : (5 - (a.steps + 1)) + 1 ≤ 5 - a.steps
        fewer = omega (arith, early)

-- No gear is left: all answers are no.
abbrev pub CostsNobody : Ascent → Asking → Type 0
CostsNobody a q =
    (3 * frames_to_ask q (asked_next a) + thirds_to_nobody (ascended a false) (asking_next q (asked_next a)) ≤ thirds_to_nobody a q)
    × IsTrueWay (ascended a false) (asking_next q (asked_next a))
    × (is_bounded (ascended a false) ≡ false)

pub nobody_costs : (a : Ascent) (q : Asking) → IsTrueWay a q → leads_to a ≡ Again → is_bounded a ≡ false → CostsNobody a q
nobody_costs a q here again unknown = elim (going_on a again) [
  | inl h ↦ absurd (let small : a.high < 0xFFFFFF = h.small in grind (arith, nat_tests))
  | inr s ↦ go s (a.found == 0) refl
] where
  costs : Costs a q false
  costs = question_costs a q false here.way again

  drawn : asked_next a < 0xFFFFFF
  drawn = asked_drawn a here.way.is again

  -- a no leaves it without an answer
  after : (asked : ℕ) → is_bounded (told_no a asked) ≡ false
  after asked = unknown

  go : IsStepping a → (b : Bool) → (a.found == 0) ≡ b → CostsNobody a q
  go s true found = (
    less (a.silent == 0) refl,
    record {
      way = costs.1;
      fresh = λ e none. absurd (silent_more none);
      again = λ e once. (last, new_room (let none : a.silent ≡ 0 = before once in none));
    },
    unknown,
  ) where
    unfound : a.found ≡ 0
    unfound = grind (arith, nat_tests)

    last : asked_next a ≡ 0xFFFFFE
    last = unfound_asks a unknown unfound

    few : a.silent < 2
    few = s.few

    silent_is : (told_no a (asked_next a)).silent ≡ a.silent + 1
    silent_is = grind (arith, nat_tests, last)

    silent_more : (told_no a (asked_next a)).silent ≡ 0 → ⊥
    silent_more none = omega (arith, none, silent_is)

    before : (told_no a (asked_next a)).silent ≡ 1 → a.silent ≡ 0
    before once = omega (arith, once, silent_is)

    no_room : a.silent ≡ 0 → has_room q (asked_next a) ≡ false
    no_room none = let room : q.room ≡ 0 = here.fresh unfound none unknown in grind (arith, nat_tests, room)

    new_room : a.silent ≡ 0 → room_left q (asked_next a) ≡ 4
    new_room none = rw (no_room none) refl

    is_same : bytes_apart 0xFFFFFE 0xFFFFFE ≡ 0
    is_same = same_bytes 0xFFFFFE

    some_room : a.silent ≡ 1 → frames_to_ask q (asked_next a) ≡ 1
    some_room once =
        let at = here.again unfound once in
        let same : bytes_apart q.number (asked_next a) ≡ 0 = rw (at.0, last, is_same) refl in
        rw (same, at.1) refl

    none_left : (asked room silent : ℕ) → (told_no a asked).silent ≡ silent
        → thirds_to_nobody (told_no a asked) (record { number = asked; room = room }) ≡ (if silent == 0 then 15 else (if silent == 1 then 3 else 0))
    none_left asked room silent is = rw (found, is) refl

    less : (b : Bool) → (a.silent == 0) ≡ b
        → 3 * frames_to_ask q (asked_next a) + thirds_to_nobody (ascended a false) (asking_next q (asked_next a)) ≤ thirds_to_nobody a q
    less true is =
        let none : a.silent ≡ 0 = grind (arith, nat_tests) in
        let four : frames_to_ask q (asked_next a) ≡ 4 = rw (no_room none) refl in
        let once : (told_no a (asked_next a)).silent ≡ 1 = omega (arith, silent_is, none) in
        subst (λ left. 3 * frames_to_ask q (asked_next a) + left ≤ thirds_to_nobody a q) (sym (none_left (asked_next a) (room_left q (asked_next a)) 1 once))
        (rw (four, found, none) (lit≤ tt))
    less false is =
        let once : a.silent ≡ 1 = grind (arith, nat_tests, few) in
        let one : frames_to_ask q (asked_next a) ≡ 1 = some_room once in
        let twice : (told_no a (asked_next a)).silent ≡ 2 = omega (arith, silent_is, once) in
        subst (λ left. 3 * frames_to_ask q (asked_next a) + left ≤ thirds_to_nobody a q) (sym (none_left (asked_next a) (room_left q (asked_next a)) 2 twice))
        (rw (one, found, once) (lit≤ tt))
  go s false found = (less, record { way = costs.1; fresh = λ e. absurd (some_found e); again = λ e. absurd (some_found e) }, unknown) where
    some_found : a.found ≡ 0 → ⊥
    some_found none = grind (arith, nat_tests)

    before : thirds_to_nobody a q ≡ thirds_of_room q.room + (16 * steps_left a - (if a.steps == 0 then 8 else 0))
    before = rw found refl

    later : (a.steps + 1 == 0) ≡ false
    later = grind (arith, nat_tests)

    few : a.silent < 2
    few = s.few

    no_left : (asked room : ℕ) → thirds_to_nobody (told_no a asked) (record { number = asked; room = room })
        ≡ thirds_of_room room + (16 * ((2 - (if asked == 0xFFFFFE then a.silent + 1 else a.silent)) + (4 - (a.steps + 1))) - 0)
    no_left asked room = rw (found, unknown, here.way.ahead, later) refl

    fewer : (b : Bool) → (asked_next a == 0xFFFFFE) ≡ b → (2 - (if b then a.silent + 1 else a.silent)) + (4 - (a.steps + 1)) + 1 ≤ steps_left a
    fewer true is = omega (arith, few)
    fewer false is =
        let early : 4 ≤ a.steps → ⊥ =
        λ late. (let same : asked_next a ≡ 0xFFFFFE = s.asked ∙ from_fourth a here.way.ahead late in grind (arith, nat_tests)) in
        omega (arith, few, early)

    join : (frames room left more : ℕ) → 3 * frames + room + left ≤ more → 3 * frames + (room + left) ≤ more
    join frames room left more less = omega (arith, less)

    no_sum : (t r less n m : ℕ) → t + less ≤ r + 16 → m + 1 ≤ n → less ≤ 8 → t + (16 * m - 0) ≤ r + (16 * n - less)
    no_sum t r less n m one two three = omega (arith, one, two, three)

    less : 3 * frames_to_ask q (asked_next a) + thirds_to_nobody (ascended a false) (asking_next q (asked_next a)) ≤ thirds_to_nobody a q
    less =
        subst (λ left. 3 * frames_to_ask q (asked_next a) + left ≤ thirds_to_nobody a q) (sym (no_left (asked_next a) (room_left q (asked_next a))))
        (rw before (join _ _ _ _ (no_sum _ _ _ _ _ (step_takes a q here.way s) (fewer (asked_next a == 0xFFFFFE) refl) (eight_most (a.steps == 0)))))

-- ---------------------------------------------------------------- where they begin

-- from its start, and above who was found: what is left at most
pub first_true : (q : Asking) → q.room ≡ 0
    → IsTrueWay ascent_at_first q × (thirds_to_somebody ascent_at_first q ≡ 219) × (thirds_to_nobody ascent_at_first q ≡ 15)
first_true q none = (
  record {
    way = (begun_is ascent_at_first q first_begun none).0;
    fresh = λ unfound silent shut. none;
    again = λ unfound once. absurd (omega (arith, once));
  },
  rw none refl,
  refl,
)

pub above_true : (a : Ascent) (r : ℕ) (q : Asking) → IsAscent a → r < 0xFFFFFF → q.room ≡ 0
    → IsTrueWay (above a r) q × (thirds_to_somebody (above a r) q ≡ 283) × (thirds_to_nobody (above a r) q ≡ 92)
above_true a r q is small none = (
  record {
    way = (begun_is (above a r) q (above_begun a r is small) none).0;
    fresh = λ unfound silent shut. none;
    again = λ unfound once. absurd (omega (arith, once));
  },
  rw (none, found) refl,
  rw (none, found) refl,
) where
  found : (min (a.found + 1) 255 == 0) ≡ false
  found = grind (arith, nat_tests)
