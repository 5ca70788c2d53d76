use Rattle.std.proofs.Common.{◌≡◌, ◌⊎◌, inl, inr, ℕ, zero, suc, ◌+◌, ◌-◌, ◌*◌, ◌/◌, ◌^◌, ◌<◌, ◌≤◌, Bool, true, false, List, [], ◌∷◌, refl, sym, subst, ◌∙◌}
use Rattle.std.proofs.Common.{arith, nat_lt, lit<, lit≤, ◌==◌, if◌then◌else◌}
use Rattle.std.proofs.lemmas.Bool.Decides.{nat_tests}
use Rattle.dali_search.specs.Ascending.{Ascent, IsAscent, with_ones, apart_below, apart, end_of_block, scale, from_known, asked_next, leads_to, is_bounded}
use Rattle.dali_search.specs.Ascending.{told_yes, told_no, ascended, ascent_at_first, above}
use Rattle.dali_search.specs.Questions.{bytes_apart, Asking, frames_to_ask, room_left, asking_next, is_again, frames_asked, HasBegun, IsOnes, AgreeAbove}
use Rattle.dali_search.specs.Questions.{IsHalved, IsUnderWay, thirds_of_room, thirds_of_bits, thirds_of_last, steps_left, thirds_of_steps, thirds_left}
use Rattle.dali_search.specs.declared.step.Step.{Step, TheVariants.Again, TheVariants.Found, TheVariants.Nobody}
use Rattle.dali_search.proofs.Ascents.{IsHalving, IsStepping, going_on, asked_drawn, from_fourth, yes_is, no_is}
use Rattle.dali_search.proofs.{Blocks.apart_most, Blocks.Halves, Blocks.halves, Bytes.ones_less}
use Rattle.dali_search.proofs.Bytes.{ones_fewer, above_from, above_ones, above_apart, apart_of_ones, no_leaves, three_most, near_one, near_two, near_last}

-- What the questions of an ascent cost: with each of them the frames that are left at most become fewer, by what it takes.

-- ---------------------------------------------------------------- one question

-- what it takes, by the bytes that change and the room that is left
abbrev pub taken : ℕ → ℕ → ℕ
taken bytes room = 3 * (if nat_lt bytes room then bytes + 1 else 4) + thirds_of_room (if nat_lt bytes room then room - (bytes + 1) else 4)

takes_one : (bytes room : ℕ) → bytes ≤ 1 → room ≤ 4 → taken bytes room ≤ thirds_of_room room + 8
takes_one bytes room few most = grind (arith, nat_tests)

takes_two : (bytes room : ℕ) → bytes ≤ 2 → room ≤ 4 → taken bytes room ≤ thirds_of_room room + 13
takes_two bytes room few most = grind (arith, nat_tests)

pub takes_three : (bytes room : ℕ) → bytes ≤ 3 → room ≤ 4 → taken bytes room ≤ thirds_of_room room + 16
takes_three bytes room few most = grind (arith, nat_tests)

pub takes_new : (bytes room : ℕ) → room ≡ 0 → taken bytes room ≤ thirds_of_room room + 8
takes_new bytes room none = grind (arith, nat_tests)

room_most : (bytes room : ℕ) → room ≤ 4 → (if nat_lt bytes room then room - (bytes + 1) else 4) ≤ 4
room_most bytes room most = grind (arith, nat_tests)

-- ---------------------------------------------------------------- halving

-- what a question takes if the bounds have so many bits apart
abbrev TakesOf : ℕ → ℕ → ℕ → Type 0
TakesOf bits number bytes =
    (bytes ≤ 1) ⊎ ((bytes ≤ 2) × ((number ≡ 0xFFFFFE) ⊎ ((bits ≡ 8) ⊎ (bits ≡ 16))))

bits_fewer : (bits less : ℕ) → less < bits → thirds_of_bits less + 8 ≤ thirds_of_bits bits
bits_fewer bits less few = grind (arith, nat_tests)

bits_fewer_two : (bits less : ℕ) → less < bits → (bits ≡ 8) ⊎ (bits ≡ 16) → thirds_of_bits less + 13 ≤ thirds_of_bits bits
bits_fewer_two bits less few (inl is) = grind (arith, nat_tests)
bits_fewer_two bits less few (inr is) = grind (arith, nat_tests)

last_only : (n : ℕ) → n < 0xFFFFFE → thirds_of_last n ≡ 0
last_only n small = grind (arith, nat_tests)

last_is : (n : ℕ) → n ≡ 0xFFFFFE → thirds_of_last n ≡ 5
last_is n is = grind (arith, nat_tests)

halving_takes : (bits less number asked bytes room : ℕ) → room ≤ 4 → less < bits → asked < 0xFFFFFE → TakesOf bits number bytes
    → taken bytes room + (thirds_of_bits less + thirds_of_last asked) ≤ thirds_of_room room + (thirds_of_bits bits + thirds_of_last number)
halving_takes bits less number asked bytes room most few small (inl one) =
    let takes : taken bytes room ≤ thirds_of_room room + 8 = takes_one bytes room one most in
    let fewer : thirds_of_bits less + 8 ≤ thirds_of_bits bits = bits_fewer bits less few in
    let none : thirds_of_last asked ≡ 0 = last_only asked small in
    let some : 0 ≤ thirds_of_last number = omega arith in
    rw none (sum (taken bytes room) (thirds_of_room room) (thirds_of_bits less) (thirds_of_bits bits) (thirds_of_last number) takes fewer) where
      sum : (t r l b n : ℕ) → t ≤ r + 8 → l + 8 ≤ b → t + (l + 0) ≤ r + (b + n)
      sum t r l b n takes fewer = omega (arith, takes, fewer)
halving_takes bits less number asked bytes room most few small (inr (two, inl is)) =
    let takes : taken bytes room ≤ thirds_of_room room + 13 = takes_two bytes room two most in
    let fewer : thirds_of_bits less + 8 ≤ thirds_of_bits bits = bits_fewer bits less few in
    let none : thirds_of_last asked ≡ 0 = last_only asked small in
    let five : thirds_of_last number ≡ 5 = last_is number is in
    rw (none, five) (sum (taken bytes room) (thirds_of_room room) (thirds_of_bits less) (thirds_of_bits bits) takes fewer) where
      sum : (t r l b : ℕ) → t ≤ r + 13 → l + 8 ≤ b → t + (l + 0) ≤ r + (b + 5)
      sum t r l b takes fewer = omega (arith, takes, fewer)
halving_takes bits less number asked bytes room most few small (inr (two, inr at)) =
    let takes : taken bytes room ≤ thirds_of_room room + 13 = takes_two bytes room two most in
    let fewer : thirds_of_bits less + 13 ≤ thirds_of_bits bits = bits_fewer_two bits less few at in
    let none : thirds_of_last asked ≡ 0 = last_only asked small in
    rw none (sum (taken bytes room) (thirds_of_room room) (thirds_of_bits less) (thirds_of_bits bits) (thirds_of_last number) takes fewer) where
      sum : (t r l b n : ℕ) → t ≤ r + 13 → l + 13 ≤ b → t + (l + 0) ≤ r + (b + n)
      sum t r l b n takes fewer = omega (arith, takes, fewer)

-- below FFFFFE, too, one bit fewer is left after a no, or nothing
last_ones : IsOnes 23 0x7FFFFF
unfolding with_ones
last_ones = refl

no_leaves_last : (low : ℕ) → low < 0xFFFFFE
    → (apart_below 24 (with_ones (apart_below 24 low 0xFFFFFE - 1) low + 1) 0xFFFFFE ≡ apart_below 24 low 0xFFFFFE - 1)
    ⊎ (with_ones (apart_below 24 low 0xFFFFFE - 1) low + 1 ≡ 0xFFFFFE)
unfolding apart_below with_ones
no_leaves_last low less = go (low == 0xFFFFFE) refl where
  below : low / 2 < 0x7FFFFF
  below = omega (arith, less)

  Left : ℕ → Type 0
  Left k = (apart_below 24 (with_ones (k - 1) low + 1) 0xFFFFFE ≡ k - 1) ⊎ (with_ones (k - 1) low + 1 ≡ 0xFFFFFE)

  bits : (w : ℕ) → 0 < w → apart_below 23 (with_ones (w - 1) (low / 2) + 1) 0x7FFFFF ≡ w - 1 → Left (w + 1)
  bits zero some left = absurd (omega (arith, some))
  bits (suc w) some left =
      let same : suc w - 1 ≡ w = omega arith in
      let last : suc w + 1 - 1 ≡ suc w = omega arith in
      let under : apart_below 23 (with_ones w (low / 2) + 1) 0x7FFFFF ≡ w = subst (λ k. apart_below 23 (with_ones k (low / 2) + 1) 0x7FFFFF ≡ k) same left in
      let half : (2 * with_ones w (low / 2) + 1 + 1) / 2 ≡ with_ones w (low / 2) + 1 = omega arith in
      subst (λ k. (apart_below 24 (with_ones k low + 1) 0xFFFFFE ≡ k) ⊎ (with_ones k low + 1 ≡ 0xFFFFFE)) (sym last)
      (at (2 * with_ones w (low / 2) + 1 + 1 == 0xFFFFFE) refl (rw half under))
    where
      at : (b : Bool) → (2 * with_ones w (low / 2) + 1 + 1 == 0xFFFFFE) ≡ b → apart_below 23 ((2 * with_ones w (low / 2) + 1 + 1) / 2) 0x7FFFFF ≡ w
          → ((if b then 0 else apart_below 23 ((2 * with_ones w (low / 2) + 1 + 1) / 2) 0x7FFFFF + 1) ≡ suc w)
          ⊎ (2 * with_ones w (low / 2) + 1 + 1 ≡ 0xFFFFFE)
      at true is under = inr (grind (arith, nat_tests))
      at false is under = inl (omega (arith, under))

  go : (b : Bool) → (low == 0xFFFFFE) ≡ b → Left (if b then 0 else apart_below 23 (low / 2) 0x7FFFFF + 1)
  go true is = let same : low ≡ 0xFFFFFE = grind (arith, nat_tests) in absurd (omega (arith, same, less))
  go false is =
      let half = halves 23 (low / 2) 0x7FFFFF below (omega arith) in
      let most : apart_below 23 (low / 2) 0x7FFFFF ≤ 23 = apart_most 23 (low / 2) 0x7FFFFF in
      bits (apart_below 23 (low / 2) 0x7FFFFF) half.some
      (no_leaves 23 (low / 2) 0x7FFFFF below (omega arith) (ones_fewer (apart_below 23 (low / 2) 0x7FFFFF) 23 0x7FFFFF most last_ones))

-- what holds if an ascent is halved, of the number that it asks
record IsAskedIn (low high number bits asked : ℕ) : Type 0 where
  some : 0 < bits
  below : asked < high
  takes : TakesOf bits number (bytes_apart number asked)
  yes_bits : apart low asked < bits
  yes : IsHalved low asked asked
  no_bits : apart (asked + 1) high < bits
  no : IsHalved (asked + 1) high asked

halved_asks : (low high number : ℕ) → low < high → high < 0xFFFFFF → IsHalved low high number
    → IsAskedIn low high number (apart low high) (with_ones (apart low high - 1) low)
unfolding apart
halved_asks low high number less small halved = record {
  some = some;
  below = half.below;
  takes = takes halved.ends halved.last;
  yes_bits = half.yes;
  yes = record { ends = inl (ones_less (apart low asked) (bits - 1) low (apart_of_ones 24 (bits - 1) low)); last = inl refl };
  no_bits = half.no;
  no = record { ends = no_ends halved.ends; last = inr (refl, λ goes. no_last halved.ends goes) };
} where
  bits : ℕ
  bits = apart low high

  asked : ℕ
  asked = with_ones (bits - 1) low

  half : Halves 24 low high bits asked
  half = halves 24 low high less (omega (arith, small))

  some : 0 < bits
  some = half.some

  fits : low < 2 ^ 24
  fits = omega (arith, less, small)

  -- the number that is asked agrees with both bounds above all bits that they do not share
  bounds : AgreeAbove bits low high
  bounds = above_apart 24 low high fits (omega (arith, small))

  with_low : AgreeAbove bits asked low
  with_low = above_from (bits - 1) bits asked low (omega arith) (above_ones (bits - 1) low)

  asked_ones : IsOnes (bits - 1) asked
  asked_ones = ones_less (bits - 1) (bits - 1) low (omega arith)

  near : bits ≤ bits - 1 + 1
  near = omega (arith, some)

  takes : IsOnes bits high ⊎ (high ≡ 0xFFFFFE)
      → (number ≡ high) ⊎ ((number + 1 ≡ low) × (low < high → AgreeAbove (bits + 1) number low × IsOnes bits number))
      → TakesOf bits number (bytes_apart number asked)
  takes (inl ones) (inl is) =
      let one : bytes_apart high asked ≤ 1 = near_one bits (bits - 1) high asked near (sym bounds ∙ sym with_low)
      (ones_fewer (bits - 1) bits high (omega arith) ones) asked_ones in
      inl (subst (λ n. bytes_apart n asked ≤ 1) (sym is) one)
  takes (inr last) (inl is) =
      let agree : AgreeAbove bits high asked = sym bounds ∙ sym with_low in
      let two : bytes_apart 0xFFFFFE asked ≤ 2 = near_last bits (bits - 1) asked near (subst (λ n. AgreeAbove bits n asked) last agree) asked_ones in
      inr (subst (λ n. bytes_apart n asked ≤ 2) (sym (is ∙ last)) two, inl (is ∙ last))
  takes ends (inr after) =
      let at = after.1 less in
      let agree : AgreeAbove (bits + 1) number asked =
      at.0 ∙ sym (above_from bits (bits + 1) asked low (omega arith) with_low) in
      let two = near_two (bits + 1) (bits - 1) number asked (omega (arith, some)) agree (ones_fewer (bits - 1) bits number (omega arith) at.1) asked_ones in
      by_bits (bits == 8) refl (bits == 16) refl two
    where
      by_bits : (b : Bool) → (bits == 8) ≡ b → (c : Bool) → (bits == 16) ≡ c
          → (bytes_apart number asked ≤ 2) × ((bits + 1 ≡ 9 → ⊥) → (bits + 1 ≡ 17 → ⊥) → bytes_apart number asked ≤ 1)
          → TakesOf bits number (bytes_apart number asked)
      by_bits true is c other two = inr (two.0, inr (inl (grind (arith, nat_tests))))
      by_bits false is true other two = inr (two.0, inr (inr (grind (arith, nat_tests))))
      by_bits false is false other two = inl (two.1 (λ e. grind (arith, nat_tests)) (λ e. grind (arith, nat_tests)))

  no_ends : IsOnes bits high ⊎ (high ≡ 0xFFFFFE) → IsOnes (apart (asked + 1) high) high ⊎ (high ≡ 0xFFFFFE)
  no_ends (inl ones) =
      let fewer : apart (asked + 1) high < bits = half.no in inl (ones_fewer (apart (asked + 1) high) bits high (omega (arith, fewer)) ones)
  no_ends (inr last) = inr last

  one_fewer : IsOnes bits high ⊎ (high ≡ 0xFFFFFE) → asked + 1 < high → apart (asked + 1) high ≡ bits - 1
  one_fewer (inl ones) goes = no_leaves 24 low high less (omega (arith, small)) ones
  one_fewer (inr last) goes = go (no_leaves_last low (omega (arith, less, last))) where
    go : (apart_below 24 (with_ones (apart_below 24 low 0xFFFFFE - 1) low + 1) 0xFFFFFE ≡ apart_below 24 low 0xFFFFFE - 1)
        ⊎ (with_ones (apart_below 24 low 0xFFFFFE - 1) low + 1 ≡ 0xFFFFFE) → apart (asked + 1) high ≡ bits - 1
    go (inl is) = subst (λ h. apart (with_ones (apart low h - 1) low + 1) h ≡ apart low h - 1) (sym last) is
    go (inr is) =
        let same : asked + 1 ≡ high = subst (λ h. with_ones (apart low h - 1) low + 1 ≡ h) (sym last) is in absurd (omega (arith, same, goes))

  no_last : IsOnes bits high ⊎ (high ≡ 0xFFFFFE) → asked + 1 < high
      → AgreeAbove (apart (asked + 1) high + 1) asked (asked + 1) × IsOnes (apart (asked + 1) high) asked
  no_last ends goes =
      let fewer : apart (asked + 1) high ≡ bits - 1 = one_fewer ends goes in
      let next : apart (asked + 1) high + 1 ≡ bits = omega (arith, fewer, some) in
      let above : AgreeAbove (apart (asked + 1) high) (asked + 1) high =
      above_apart 24 (asked + 1) high (omega (arith, goes, small)) (omega (arith, small)) in
      let with_high : AgreeAbove bits (asked + 1) high = above_from (apart (asked + 1) high) bits (asked + 1) high (omega (arith, fewer)) above in
      (subst (λ k. AgreeAbove k asked (asked + 1)) (sym next) (with_low ∙ bounds ∙ sym with_high), subst (λ k. IsOnes k asked) (sym fewer) asked_ones)

-- ---------------------------------------------------------------- a step up

pub apart_most_of : (n m : ℕ) → apart n m ≤ 24
unfolding apart
apart_most_of n m = apart_most 24 n m

-- who answers first under a step up has it as the upper bound
step_ends : (a : Ascent) → a.is_anew ≡ false → IsHalved a.low (from_known a) (from_known a)
unfolding apart
step_ends a ahead = record { ends = ends; last = inl refl } where
  Ends : ℕ → Type 0
  Ends n = IsOnes (apart a.low n) n ⊎ (n ≡ 0xFFFFFE)

  end : (k : ℕ) → Ends (end_of_block k a.low)
  end k = go (nat_lt 0xFFFFFE (with_ones k a.low)) refl where
    go : (b : Bool) → nat_lt 0xFFFFFE (with_ones k a.low) ≡ b → Ends (end_of_block k a.low)
    go true past = inr (let more : 0xFFFFFE < with_ones k a.low = grind (arith, nat_tests) in omega (arith, more))
    go false past =
        let most : with_ones k a.low ≤ 0xFFFFFE = grind (arith, nat_tests) in
        let is : end_of_block k a.low ≡ with_ones k a.low = omega (arith, most) in
        subst Ends (sym is) (inl (ones_less (apart a.low (with_ones k a.low)) k a.low (apart_of_ones 24 k a.low)))

  step : (b : Bool) → Ends (if b then end_of_block (scale a + a.steps) a.low else 0xFFFFFE)
  step true = end (scale a + a.steps)
  step false = inr refl

  found : (b : Bool) → Ends (if b then 0xFFFFFE else (if nat_lt a.steps 4 then end_of_block (scale a + a.steps) a.low else 0xFFFFFE))
  found true = inr refl
  found false = step (nat_lt a.steps 4)

  ends : Ends (from_known a)
  ends = rw ahead (found (a.found == 0))

-- ---------------------------------------------------------------- each question

abbrev pub Costs : Ascent → Asking → Bool → Type 0
Costs a q answer =
    (3 * frames_to_ask q (asked_next a) + thirds_left (ascended a answer) (asking_next q (asked_next a)) ≤ thirds_left a q)
    × IsUnderWay (ascended a answer) (asking_next q (asked_next a))

pub most_bits : (bits : ℕ) → bits ≤ 24 → thirds_of_bits bits ≤ 202
most_bits bits most = grind (arith, nat_tests)

pub last_most : (n : ℕ) → thirds_of_last n ≤ 5
last_most n = grind (arith, nat_tests)

halving_costs : (a : Ascent) (q : Asking) (answer : Bool) → IsUnderWay a q → leads_to a ≡ Again → IsHalving a → Costs a q answer
halving_costs a q answer here again h = go answer where
  bounded : is_bounded a ≡ true
  bounded = let small : a.high < 0xFFFFFF = h.small in grind (arith, nat_tests)

  at : IsAskedIn a.low a.high q.number (apart a.low a.high) (with_ones (apart a.low a.high - 1) a.low)
  at = halved_asks a.low a.high q.number h.less h.small (here.halved bounded)

  asks : IsAskedIn a.low a.high q.number (apart a.low a.high) (asked_next a)
  asks = subst (λ n. IsAskedIn a.low a.high q.number (apart a.low a.high) n) (sym h.asked) at

  small : asked_next a < 0xFFFFFE
  small = let below : asked_next a < a.high = asks.below in let top : a.high < 0xFFFFFF = h.small in omega (arith, below, top)

  before : thirds_left a q ≡ thirds_of_room q.room + (thirds_of_bits (apart a.low a.high) + thirds_of_last q.number)
  before = rw bounded refl

  yes_bounded : nat_lt (asked_next a) 0xFFFFFF ≡ true
  yes_bounded = grind (arith, nat_tests, small)

  yes_left : (asked room : ℕ) → nat_lt asked 0xFFFFFF ≡ true
      → thirds_left (told_yes a asked) (record { number = asked; room = room }) ≡ thirds_of_room room +
      (thirds_of_bits (apart a.low asked) + thirds_of_last asked)
  yes_left asked room below = rw below refl

  no_left : (asked room : ℕ) → thirds_left (told_no a asked) (record { number = asked; room = room })
      ≡ thirds_of_room room + (thirds_of_bits (apart (asked + 1) a.high) + thirds_of_last asked)
  no_left asked room = rw bounded refl

  sum : (frames room left more : ℕ) → 3 * frames + room + left ≤ more → 3 * frames + (room + left) ≤ more
  sum frames room left more less = omega (arith, less)

  go : (answer : Bool) → Costs a q answer
  go true = (
    subst (λ left. 3 * frames_to_ask q (asked_next a) + left ≤ thirds_left a q) (sym (yes_left (asked_next a) (room_left q (asked_next a)) yes_bounded))
        (rw before (sum _ _ _ _ (halving_takes (apart a.low a.high) (apart a.low (asked_next a)) q.number (asked_next a) (bytes_apart q.number (asked_next a))
        q.room here.room asks.yes_bits small asks.takes))),
    record {
      is = yes_is a here.is again;
      room = room_most (bytes_apart q.number (asked_next a)) q.room here.room;
      ahead = here.ahead;
      first = λ none unknown. absurd (let shut : true ≡ false = sym yes_bounded ∙ unknown in cc);
      halved = λ b. asks.yes;
    },
  )
  go false = (
    subst (λ left. 3 * frames_to_ask q (asked_next a) + left ≤ thirds_left a q) (sym (no_left (asked_next a) (room_left q (asked_next a))))
        (rw before (sum _ _ _ _ (halving_takes (apart a.low a.high) (apart (asked_next a + 1) a.high) q.number (asked_next a)
        (bytes_apart q.number (asked_next a))
        q.room here.room asks.no_bits small asks.takes))),
    record {
      is = no_is a here.is again;
      room = room_most (bytes_apart q.number (asked_next a)) q.room here.room;
      ahead = refl;
      first = λ none unknown. absurd (let shut : true ≡ false = sym bounded ∙ unknown in cc);
      halved = λ b. asks.no;
    },
  )

stepping_costs : (a : Ascent) (q : Asking) (answer : Bool) → IsUnderWay a q → leads_to a ≡ Again → IsStepping a → Costs a q answer
stepping_costs a q answer here again s = go answer where
  unknown : is_bounded a ≡ false
  unknown = let top : 0xFFFFFF ≤ a.high = s.top in grind (arith, nat_tests)

  drawn : asked_next a < 0xFFFFFF
  drawn = asked_drawn a here.is again

  bytes : ℕ
  bytes = bytes_apart q.number (asked_next a)

  before : thirds_left a q ≡ thirds_of_room q.room + thirds_of_steps a
  before = rw unknown refl

  few : a.silent < 2
  few = s.few

  -- what the question takes: less if it is the first
  takes : (b : Bool) → (a.steps == 0) ≡ b → taken bytes q.room + (if b then 8 else 0) ≤ thirds_of_room q.room + 16
  takes true is =
      let none : q.room ≡ 0 = here.first (let first : a.steps ≡ 0 = grind (arith, nat_tests) in first) unknown in
      let new : taken bytes q.room ≤ thirds_of_room q.room + 8 = takes_new bytes q.room none in
      sum (taken bytes q.room) (thirds_of_room q.room) new where
        sum : (t r : ℕ) → t ≤ r + 8 → t + 8 ≤ r + 16
        sum t r less = omega (arith, less)
  takes false is =
      let three : taken bytes q.room ≤ thirds_of_room q.room + 16 = takes_three bytes q.room (three_most q.number (asked_next a)) here.room in
      sum (taken bytes q.room) (thirds_of_room q.room) three where
        sum : (t r : ℕ) → t ≤ r + 16 → t + 0 ≤ r + 16
        sum t r less = omega (arith, less)

  yes_bounded : nat_lt (asked_next a) 0xFFFFFF ≡ true
  yes_bounded = grind (arith, nat_tests, drawn)

  later : (a.steps + 1 == 0) ≡ false
  later = grind (arith, nat_tests)

  no_steps : (asked : ℕ) → (told_no a asked).steps ≡ a.steps + 1
  no_steps asked = rw (unknown, here.ahead) refl

  yes_left : (asked room : ℕ) → nat_lt asked 0xFFFFFF ≡ true
      → thirds_left (told_yes a asked) (record { number = asked; room = room }) ≡ thirds_of_room room +
      (thirds_of_bits (apart a.low asked) + thirds_of_last asked)
  yes_left asked room below = rw below refl

  no_left : (asked room : ℕ) → thirds_left (told_no a asked) (record { number = asked; room = room })
      ≡ thirds_of_room room + (16 * ((2 - (if asked == 0xFFFFFE then a.silent + 1 else a.silent)) + (4 - (a.steps + 1))) + 207 - 0)
  no_left asked room = rw (unknown, here.ahead, later) refl

  -- a no leaves one question fewer
  fewer : (b : Bool) → (asked_next a == 0xFFFFFE) ≡ b → (2 - (if b then a.silent + 1 else a.silent)) + (4 - (a.steps + 1)) + 1 ≤ steps_left a
  fewer true is = omega (arith, few)
  fewer false is =
      let early : 4 ≤ a.steps → ⊥ = λ late. (let same : asked_next a ≡ 0xFFFFFE = s.asked ∙ from_fourth a here.ahead late in grind (arith, nat_tests)) in
      omega (arith, few, early)

  some : 1 ≤ steps_left a
  some = omega (arith, few)

  yes_sum : (t r v b l less n : ℕ) → t + less ≤ r + 16 → b ≤ 202 → l ≤ 5 → 1 ≤ n → less ≤ 8 → t ≡ v → v + (b + l) ≤ r + (16 * n + 207 - less)
  yes_sum t r v b l less n one two three four five is = omega (arith, one, two, three, four, five, is)

  no_sum : (t r less n m : ℕ) → t + less ≤ r + 16 → m + 1 ≤ n → less ≤ 8 → t + (16 * m + 207 - 0) ≤ r + (16 * n + 207 - less)
  no_sum t r less n m one two three = omega (arith, one, two, three)

  less_most : (b : Bool) → (if b then 8 else 0) ≤ 8
  less_most true = omega arith
  less_most false = omega arith

  join : (frames room left more : ℕ) → 3 * frames + room + left ≤ more → 3 * frames + (room + left) ≤ more
  join frames room left more less = omega (arith, less)

  go : (answer : Bool) → Costs a q answer
  go true = (
    subst (λ left. 3 * frames_to_ask q (asked_next a) + left ≤ thirds_left a q) (sym (yes_left (asked_next a) (room_left q (asked_next a)) yes_bounded))
        (rw before (join _ _ _ _ (yes_sum _ _ _ _ _ _ _ (takes (a.steps == 0) refl)
        (most_bits (apart a.low (asked_next a)) (apart_most_of a.low (asked_next a))) (last_most (asked_next a)) some (less_most (a.steps == 0)) refl))),
    record {
      is = yes_is a here.is again;
      room = room_most bytes q.room here.room;
      ahead = here.ahead;
      first = λ none shut. absurd (let no_way : true ≡ false = sym yes_bounded ∙ shut in cc);
      halved = λ b. subst (λ n. IsHalved a.low n n) (sym s.asked) (step_ends a here.ahead);
    },
  )
  go false = (
    subst (λ left. 3 * frames_to_ask q (asked_next a) + left ≤ thirds_left a q) (sym (no_left (asked_next a) (room_left q (asked_next a))))
        (rw before (join _ _ _ _ (no_sum _ _ _ _ _ (takes (a.steps == 0) refl) (fewer (asked_next a == 0xFFFFFE) refl) (less_most (a.steps == 0))))),
    record {
      is = no_is a here.is again;
      room = room_most bytes q.room here.room;
      ahead = refl;
      first = λ none shut. absurd (let some : a.steps + 1 ≡ 0 = sym (no_steps (asked_next a)) ∙ none in omega (arith, some));
      halved = λ b. absurd (let shut : false ≡ true = sym unknown ∙ b in cc);
    },
  )

-- EACH QUESTION takes no more than what it leaves fewer
pub question_costs : (a : Ascent) (q : Asking) (answer : Bool) → IsUnderWay a q → leads_to a ≡ Again → Costs a q answer
question_costs a q answer here again = elim (going_on a again) [
  | inl h ↦ halving_costs a q answer here again h
  | inr s ↦ stepping_costs a q answer here again s
]

-- ALL QUESTIONS
again_if : (s : Step) → is_again s ≡ true → s ≡ Again
again_if Again e = refl
again_if (Found r) e = absurd (cc)
again_if Nobody e = absurd (cc)

all_cost : (a : Ascent) (q : Asking) (answers : List Bool) → IsUnderWay a q → 3 * frames_asked a q answers ≤ thirds_left a q
all_cost a q [] here = omega arith
all_cost a q (answer ∷ more) here =
    go (is_again (leads_to a)) refl (λ again. all_cost (ascended a answer) (asking_next q (asked_next a)) more (question_costs a q answer here again).1) where
      go : (b : Bool) → is_again (leads_to a) ≡ b
          → (leads_to a ≡ Again
          → 3 * frames_asked (ascended a answer) (asking_next q (asked_next a)) more ≤ thirds_left (ascended a answer) (asking_next q (asked_next a)))
          → 3 * (if b then frames_to_ask q (asked_next a) + frames_asked (ascended a answer) (asking_next q (asked_next a)) more else 0) ≤ thirds_left a q
      go true is rest =
          let again : leads_to a ≡ Again = again_if (leads_to a) is in
          sum _ _ _ _ (question_costs a q answer here again).0 (rest again) where
            sum : (f m t l : ℕ) → 3 * f + t ≤ l → 3 * m ≤ t → 3 * (f + m) ≤ l
            sum f m t l one two = omega (arith, one, two)
      go false is rest = omega arith

-- from the start
pub begun_is : (a : Ascent) (q : Asking) → HasBegun a → q.room ≡ 0 → IsUnderWay a q × (thirds_left a q ≡ 299)
begun_is a q begun none = (
  record {
    is = begun.is;
    room = omega (arith, none);
    ahead = begun.first;
    first = λ zero shut. none;
    halved = λ b. absurd (let shut : false ≡ true = sym unknown ∙ b in cc);
  },
  rw (unknown, none, begun.steps, begun.silent) refl,
) where
  unknown : is_bounded a ≡ false
  unknown = let high : a.high ≡ 0xFFFFFF = begun.high in grind (arith, nat_tests)

pub begun_costs : (a : Ascent) (q : Asking) (answers : List Bool) → HasBegun a → q.room ≡ 0 → frames_asked a q answers ≤ 99
begun_costs a q answers begun none =
    let here = begun_is a q begun none in
    let cost : 3 * frames_asked a q answers ≤ thirds_left a q = all_cost a q answers here.0 in
    let left : thirds_left a q ≡ 299 = here.1 in
    omega (arith, cost, left)

pub first_begun : HasBegun ascent_at_first
first_begun = record {
  is = record {
    low = lit≤ tt;
    high = lit≤ tt;
    silence = λ some. absurd (omega (arith, some));
    anew = λ e. absurd (cc);
    few = lit≤ tt;
    steps = lit≤ tt;
    found = lit≤ tt;
    top = lit< tt;
  };
  high = refl;
  steps = refl;
  silent = refl;
  first = refl;
}

pub above_begun : (a : Ascent) (r : ℕ) → IsAscent a → r < 0xFFFFFF → HasBegun (above a r)
above_begun a r is small = record {
  is = record {
    low = omega (arith, small);
    high = lit≤ tt;
    silence = λ some. absurd (omega (arith, some));
    anew = λ e. absurd (cc);
    few = lit≤ tt;
    steps = lit≤ tt;
    found = omega arith;
    top = let top : a.top < 0xFFFFFF = is.top in omega (arith, top, small);
  };
  high = refl;
  steps = refl;
  silent = refl;
  first = refl;
}
