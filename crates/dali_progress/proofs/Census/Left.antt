use Rattle.dali_progress.proofs.Below.{◌≡◌, ℕ, ◌+◌, ◌*◌, ◌<◌, ◌≤◌, ◌⊎◌, inl, inr, Bool, true, false, refl, sym, ap, subst, ◌∙◌, arith, Option, Some, None, ◌==◌}
use Rattle.dali_progress.proofs.Below.{◌&&◌, ◌-◌, nat_lt, zero, suc, is_some, if◌then◌else◌, mul-le-mul_left, nat_tests, value_of, Answer, SearchAddress, Kept}
use Rattle.dali_progress.proofs.Below.{stage_of, BlockFull, Order, Put, Commit, Reserve, Stage, leads_to, ascent_at_first, answered, Again, Found, Nobody}
use Rattle.dali_progress.proofs.Below.{Course, address_for, is_asked, asked_among, next_asked, is_yes, closing, going_on, going_on_early, ask_or_call}
use Rattle.dali_progress.proofs.Below.{searching_first, searching_on, hunted, asking_again, next_unfinished, probed, after_step, Machine, begins_at, goes_on_to}
use Rattle.dali_progress.proofs.Below.{at_rest, asked_once, silenced, silenced_on, missed_again, is_failed, most_silent, unanswered, hunted_in, hunted_to}
use Rattle.dali_progress.proofs.Below.{has_open, may_draw, asks_again, full, ungiven, undrawn, is_blocked, called_to, compared_in, asked_on, course_on}
use Rattle.dali_progress.proofs.Below.{asked_again, Purpose, Asking, Hunting, Calling, Way, Fresh, Surveying, either}
use Rattle.dali_search.specs.declared.step.Step.{Step}
use Rattle.dali_script.specs.declared.stage.Stage.TheVariants as stage

-- A CENSUS IS BOUNDED: by how many of its frames may still be sent, which each of them makes fewer. What may still be sent, and
-- that a transaction that begins never makes it more. `u` is 3 if the gear that is there may be silent twice and answer then, and 1
-- if no gear answers that was silent: so many frames and two more may be sent to one short address.

-- ---------------------------------------------------------------- what may still be sent

-- to the short address that is asked, if its first query is outstanding and was silent so often
abbrev pub waits : ℕ → ℕ → ℕ
waits u zero = u + 2
waits u (suc zero) = u + 1
waits u (suc (suc k)) = u

-- by what was sent before the outstanding frame
abbrev pub at_stage : ℕ → ℕ → Stage → ℕ
at_stage u k stage.Free = waits u k
at_stage u k (stage.HighAsked a high) = 2
at_stage u k (stage.MiddleAsked a bytes) = 1
at_stage u k _ = 0

abbrev pub of_purpose : ℕ → ℕ → Purpose → Stage → ℕ
of_purpose u k (Asking a) s = at_stage u k s
of_purpose u k _ s = 0

abbrev pub of_last : ℕ → Machine → Option Order → ℕ
of_last u n (Some (Put p f)) = of_purpose u n.asked n.course.purpose (stage_of n.trace)
of_last u n _ = 0

-- to the short addresses that were not looked at
abbrev pub beyond : ℕ → ℕ → ℕ
beyond u from = (u + 2) * (64 - from)

abbrev pub left_on : ℕ → Machine → Way → ℕ
left_on u n Surveying = beyond u n.course.from + of_last u n n.last
left_on u n Fresh = 0

-- and as often as short addresses are asked again, to all of them
abbrev pub granted : ℕ → ℕ → ℕ
granted u askings = (u + 2) * 64 * askings

abbrev pub left : ℕ → Machine → ℕ
left u n = left_on u n n.course.way

plus_one : (m n : ℕ) → m * (n + 1) ≡ m * n + m
plus_one m n = omega arith

pub beyond_less : (u from next : ℕ) → from < next → next ≤ 64 → beyond u next + (u + 2) ≤ beyond u from
beyond_less u from next less within =
    let few : (64 - next) + 1 ≤ 64 - from = omega (arith, less, within) in
    let more : (u + 2) * ((64 - next) + 1) ≤ (u + 2) * (64 - from) = mul-le-mul_left (u + 2) few in
    subst (λ n. n ≤ beyond u from) (plus_one (u + 2) (64 - next)) more

pub granted_more : (u askings : ℕ) → granted u (askings + 1) ≡ granted u askings + (u + 2) * 64
granted_more u askings = plus_one ((u + 2) * 64) askings

pub beyond_most : (u from : ℕ) → beyond u from ≤ (u + 2) * 64
beyond_most u from = mul-le-mul_left (u + 2) (let few : 64 - from ≤ 64 = omega arith in few)

pub waits_most : (u k : ℕ) → waits u k ≤ u + 2
waits_most u zero = omega arith
waits_most u (suc zero) = omega arith
waits_most u (suc (suc k)) = omega arith

pub waits_least : (u k : ℕ) → 1 ≤ u → 1 ≤ waits u k
waits_least u zero one = omega (arith, one)
waits_least u (suc zero) one = omega (arith, one)
waits_least u (suc (suc k)) one = one

at_stage_most : (u k : ℕ) (s : Stage) → at_stage u k s ≤ u + 2
at_stage_most u k stage.Free = waits_most u k
at_stage_most u k (stage.HighAsked a high) = omega arith
at_stage_most u k (stage.MiddleAsked a bytes) = omega arith
at_stage_most u k _ = omega arith

pub of_purpose_most : (u k : ℕ) (p : Purpose) (s : Stage) → of_purpose u k p s ≤ u + 2
of_purpose_most u k (Asking a) s = at_stage_most u k s
of_purpose_most u k _ s = omega arith

-- ---------------------------------------------------------------- which transaction begins

-- a course that asks nothing, and no more later, or asks an address further on; or one that asks from the first one on again
abbrev pub Further : ℕ → Course → Type 0
Further from d = ((64 - d.from ≤ 64 - from) × ((u k : ℕ) (s : Stage) → of_purpose u k d.purpose s ≡ 0)) ⊎ ((from < d.from) × (d.from ≤ 64))

pub record Moves (c d : Course) : Type 0 where
  pub way : d.way ≡ Surveying
  pub on : ((d.tally.askings ≡ c.tally.askings) × Further c.from d) ⊎ ((c.tally.askings < 6) × (d.tally.askings ≡ c.tally.askings + 1) × Further 0 d)

same_later : (n m : ℕ) → n ≡ m → 64 - n ≤ 64 - m
same_later n m is = rw is (omega arith)

pub quiet : {c d : Course} → d.way ≡ Surveying → d.tally.askings ≡ c.tally.askings → d.from ≡ c.from → ((u k : ℕ) (s : Stage) → of_purpose u k d.purpose s ≡ 0)
    → Moves c d
quiet {c} {d} way askings from none = record { way = way; on = inl (askings, inl (same_later d.from c.from from, none)) }

pub asked_within : (k : Kept) (n from a : ℕ) → asked_among k n from ≡ Some a → (from ≤ a) × (a < from + n)
asked_within k zero from a e = absurd (cc)
asked_within k (suc n) from a e = go (is_asked k from) e (asked_within k n (from + 1) a) where
  go : (b : Bool) → (if b then Some from else asked_among k n (from + 1)) ≡ Some a
      → (asked_among k n (from + 1) ≡ Some a → (from + 1 ≤ a) × (a < (from + 1) + n)) → (from ≤ a) × (a < from + suc n)
  go true e more = let same : from ≡ a = cc in (omega (arith, same), omega (arith, same))
  go false e more = let is = more e in (omega (arith, is.0), omega (arith, is.1))

asks_further : (k : Kept) (c : Course) → Further c.from (ask_or_call c (next_asked k c.from))
asks_further k c = go (next_asked k c.from) (asked_within k (64 - c.from) c.from) where
  go : (o : Option ℕ) → ((a : ℕ) → o ≡ Some a → (c.from ≤ a) × (a < c.from + (64 - c.from))) → Further c.from (ask_or_call c o)
  go None within = inl (omega arith, λ u n s. refl)
  go (Some a) within =
      let low : c.from ≤ a = (within a refl).0 in
      let high : a < c.from + (64 - c.from) = (within a refl).1 in
      inr (omega (arith, low), omega (arith, low, high))

-- with the way and the count that it has
asks_with : (c : Course) (o : Option ℕ) → ((ask_or_call c o).way ≡ c.way) × ((ask_or_call c o).tally.askings ≡ c.tally.askings)
asks_with c None = (refl, refl)
asks_with c (Some a) = (refl, refl)

asks_next : (k : Kept) (c : Course) → c.way ≡ Surveying → Moves c (ask_or_call c (next_asked k c.from))
asks_next k c is = let with_it = asks_with c (next_asked k c.from) in record { way = with_it.0 ∙ is; on = inl (with_it.1, asks_further k c) }

going_moves : (k : Kept) (opened : Bool) (c : Course) → c.way ≡ Surveying → Moves c (going_on k opened c)
going_moves k true c is = subst (λ y. Moves c (searching_on y c)) (sym is) (quiet is refl refl (λ u n s. refl))
going_moves k false c is = subst (λ y. Moves c (going_on_early k y c)) (sym is) (asks_next k c is)

pub goes_moves : (t : Machine) → t.course.way ≡ Surveying → Moves t.course (goes_on_to t)
goes_moves t is = going_moves t.kept t.course.opened t.course is

-- no address can be given, or none is open
asking_moves : (k : Kept) (c d : Course) → c.tally.askings < 6 → d.way ≡ Surveying → d.tally.askings ≡ c.tally.askings → Moves c (asking_again k d)
asking_moves k c d few way askings =
    let from_first : Course = record d { from = 0; opened = false; ascent = ascent_at_first; tally = asked_again d.tally } in
    let with_it = asks_with from_first (next_asked k 0) in
    record { way = with_it.0 ∙ way; on = inr (few, with_it.1 ∙ ap (λ n. n + 1) askings, asks_further k from_first) }

first_passes : (a b c : Bool) → (a && b && c) ≡ true → a ≡ true
first_passes true b c e = refl
first_passes false b c e = absurd (cc)

full_moves : (t : Machine) (d : Course) → d.way ≡ Surveying → d.tally.askings ≡ t.course.tally.askings → d.from ≡ t.course.from → Moves t.course (full t d)
full_moves t d way askings from = go (asks_again t) refl where
  go : (b : Bool) → asks_again t ≡ b → Moves t.course (if b then asking_again t.kept d else closing d BlockFull)
  go true again =
      let less : nat_lt t.course.tally.askings 6 ≡ true =
      first_passes (nat_lt t.course.tally.askings 6) t.course.tally.is_missed (is_some (next_unfinished t.kept 0)) again in
      asking_moves t.kept t.course d (let few : t.course.tally.askings < 6 = grind (arith, nat_tests, less) in few) way askings
  go false none = quiet way askings from (λ u n s. refl)

undrawn_moves : (t : Machine) (d : Course) → d.way ≡ Surveying → d.tally.askings ≡ t.course.tally.askings → d.from ≡ t.course.from
    → Moves t.course (undrawn t d)
undrawn_moves t d way askings from =
    either (Moves t.course) (has_open t) (either (Moves t.course) (nat_lt d.tally.draws 3) (quiet way askings from (λ u n s. refl))
    (either (Moves t.course) d.tally.is_heard (quiet way askings from (λ u n s. refl)) (quiet way askings from (λ u n s. refl))))
    (full_moves t d way askings from)

-- a question of a search, of a hunt or of a roll call was answered
probed_moves : (t : Machine) (h : Answer) → t.course.way ≡ Surveying → Moves t.course (probed t.course h)
probed_moves t h is = go (answered t.course.search (is_yes h)) where
  go : (s : _) → Moves t.course (after_step s.step (record t.course { search = s }))
  go s = by s.step where
    by : (x : _) → Moves t.course (after_step x (record t.course { search = s }))
    by Again = quiet is refl refl (λ u n s. refl)
    by (Found r) = quiet is refl refl (λ u n s. refl)
    by Nobody = quiet is refl refl (λ u n s. refl)

pub hunted_moves : (t : Machine) (h : Answer) → t.course.way ≡ Surveying → Moves t.course (hunted_in t h)
hunted_moves t h is = go (leads_to (hunted t.course h).ascent) where
  go : (x : Step) → Moves t.course (hunted_to t x (hunted t.course h))
  go Again = quiet is refl refl (λ u n s. refl)
  go (Found r) = quiet is refl refl (λ u n s. refl)
  go Nobody =
      either (Moves t.course) ((hunted t.course h).ascent.found == 0) (undrawn_moves t (hunted t.course h) is refl refl) (quiet is refl refl (λ u n s. refl))

called_moves : (t : Machine) (b : Bool) → t.course.way ≡ Surveying → Moves t.course (called_to t b t.course)
called_moves t false is = either (Moves t.course) t.course.tally.is_silent (quiet is refl refl (λ u n s. refl)) (quiet is refl refl (λ u n s. refl))
called_moves t true is =
    either (Moves t.course) (is_blocked t.course.tally)
    (either (Moves t.course) (may_draw t) (quiet is refl refl (λ u n s. refl)) (quiet is refl refl (λ u n s. refl))) (quiet is refl refl (λ u n s. refl))

compared_moves : (t : Machine) (p : Purpose) (h : Answer) → t.course.way ≡ Surveying → Moves t.course (compared_in t p h)
compared_moves t Calling h is = called_moves t (is_yes h) is
compared_moves t _ h is = hunted_moves t h is

first_moves : (t : Machine) → t.course.way ≡ Surveying → Moves t.course (searching_first t.course.way t.course)
first_moves t is = subst (λ y. Moves t.course (searching_first y t.course)) (sym is) (quiet is refl refl (λ u n s. refl))

ungiven_moves : (t : Machine) → t.course.way ≡ Surveying → Moves t.course (ungiven t t.course.way)
ungiven_moves t is =
    subst (λ y. Moves t.course (ungiven t y)) (sym is)
    (either (Moves t.course) (may_draw t) (quiet is refl refl (λ u n s. refl)) (full_moves t t.course is refl refl))

silenced_moves : (t : Machine) → t.course.way ≡ Surveying → Moves t.course (silenced t)
silenced_moves t is =
    either (Moves t.course) (t.silent == most_silent t.course.way) (quiet is refl refl (λ u n s. refl))
    (subst (λ y. Moves t.course (silenced_on t y)) (sym is) (again (is_failed t.course.tally.failed (value_of t.course.number)))) where
      again : (b : Bool) → Moves t.course (missed_again b t.course)
      again true = quiet is refl refl (λ u n s. refl)
      again false = quiet is refl refl (λ u n s. refl)

unanswered_moves : (t : Machine) (r : SearchAddress) (opened : Bool) (o : Option ℕ) → t.course.way ≡ Surveying → Moves t.course (unanswered t r opened o)
unanswered_moves t r false (Some a) is = quiet is refl refl (λ u n s. refl)
unanswered_moves t r false None is = silenced_moves t is
unanswered_moves t r true o is = silenced_moves t is

-- the course stays, or moves
abbrev pub StaysOrMoves : Course → Course → Type 0
StaysOrMoves c d = (d ≡ c) ⊎ Moves c d

rest_moves : (t : Machine) (last : Option Order) → t.course.way ≡ Surveying → StaysOrMoves t.course (at_rest t last)
rest_moves t (Some (Put p f)) is = inl refl
rest_moves t (Some (Commit (Reserve a n))) is = inr (quiet is refl refl (λ u k s. refl))
rest_moves t _ is = inr (goes_moves t is)

once_moves : (t : Machine) (b : Bool) → t.course.way ≡ Surveying → StaysOrMoves t.course (asked_once t b)
once_moves t true is = inr (goes_moves t is)
once_moves t false is = inl refl

pub begins_moves : (t : Machine) (s : Stage) → t.course.way ≡ Surveying → StaysOrMoves t.course (begins_at t s)
begins_moves t stage.Free is = rest_moves t t.last is
begins_moves t stage.Opened is = inr (first_moves t is)
begins_moves t stage.DrawBarred is = inr (first_moves t is)
begins_moves t (stage.HighAsked a high) is = once_moves t (t.asked == 0) is
begins_moves t (stage.Probed r h) is = inr (probed_moves t h is)
begins_moves t (stage.Hunted r (Some h) left) is = inr (compared_moves t t.course.purpose h is)
begins_moves t (stage.Unnamed r) is = inr (ungiven_moves t is)
begins_moves t (stage.Unanswered r) is = inr (unanswered_moves t r t.course.opened (address_for t.kept.reserved (value_of r)) is)
begins_moves t (stage.Inconclusive r other) is = inr (silenced_moves t is)
begins_moves t (stage.PassedOver r) is = inr (quiet is refl refl (λ u k s. refl))
begins_moves t _ is = inr (goes_moves t is)

-- a later frame leaves the course, or it is the next question of a hunt
asks_moves : (t : Machine) (p : Purpose) (h : Answer) → t.course.way ≡ Surveying → StaysOrMoves t.course (asked_on t p h)
asks_moves t Hunting h is = inr (hunted_moves t h is)
asks_moves t _ h is = inl refl

pub on_moves : (t : Machine) (s : Stage) → t.course.way ≡ Surveying → StaysOrMoves t.course (course_on t s)
on_moves t (stage.Hunted r (Some h) left) is = asks_moves t t.course.purpose h is
on_moves t _ is = inl refl

-- short addresses are asked again six times at the most
pub few_askings : (c d : Course) → StaysOrMoves c d → c.tally.askings ≤ 6 → d.tally.askings ≤ 6
few_askings c d (inl is) few = subst (λ (x : Course). x.tally.askings ≤ 6) (sym is) few
few_askings c d (inr moves) few = go moves.on where
  go : ((d.tally.askings ≡ c.tally.askings) × Further c.from d) ⊎ ((c.tally.askings < 6) × (d.tally.askings ≡ c.tally.askings + 1) × Further 0 d)
      → d.tally.askings ≤ 6
  go (inl same) = let is : d.tally.askings ≡ c.tally.askings = same.0 in omega (arith, is, few)
  go (inr again) = let less : c.tally.askings < 6 = again.0 in let is : d.tally.askings ≡ c.tally.askings + 1 = again.1 in omega (arith, less, is)
