use Rattle.dali_progress.proofs.Below.{◌≡◌, ℕ, ◌+◌, ◌*◌, ◌<◌, ◌≤◌, ◌⊎◌, inl, inr, Bool, true, false, [], refl, sym, ap, subst, ◌∙◌, arith, Option, Some, None}
use Rattle.dali_progress.proofs.Below.{◌==◌, nat_lt, zero, suc, mul-le-mul_left, nat_tests, FIRST, LATER, Answer, Silence, Byte, Damaged, Forward}
use Rattle.dali_progress.proofs.Below.{SearchAddress, command_of, Command, RandomByte, High, Middle, Low, Kept, stage_of, next_stage, byte_heard, bytes_heard}
use Rattle.dali_progress.proofs.Below.{number_heard, End, Fault, Order, Put, Commit, Done, Halt, Record, Stage, stage_more, stage_none, Course, Machine}
use Rattle.dali_progress.proofs.Below.{machine_heard, asked_at, asked_after_silence, next_course, begins_at, goes_on_to, asked_once, course_on, IsAllowed}
use Rattle.dali_progress.proofs.Below.{machine_ordered, asked_by, MayCommit, IsWhole, IsSending, Pending, Sends, Resolving, Asking, Surveying}
use Rattle.dali_progress.proofs.Census.Left.{waits, at_stage, of_purpose, of_last, beyond, left, granted, beyond_less, beyond_most, granted_more, waits_least}
use Rattle.dali_progress.proofs.{Census.Left.{of_purpose_most, goes_moves, Further, Moves}, Later.{IsUnasked, course_stays, some_same}}
use Rattle.dali_controller.specs.Whole.{Knows}
use Rattle.dali_script.specs.declared.stage.Stage.TheVariants as stage

-- A CENSUS IS BOUNDED: what each order leaves once a frame of it was heard.

-- ---------------------------------------------------------------- what an order leaves

-- by what kind of order it is: a first frame, a later one of a transaction that runs, or none; with why a record may be committed
pub by_kind : (t : Machine) (P : Order → Type 0) → ((f : Forward) → P (Put FIRST f)) → ((f : Forward) → (t.trace ≡ [] → ⊥) → P (Put LATER f))
    → ((x : Record) → MayCommit t x → P (Commit x)) → ((e : End) → P (Done e)) → ((w : Fault) → P (Halt w)) → (o : Order) → IsAllowed t o → P o
by_kind t P first later commit done halt (Commit x) may = commit x may
by_kind t P first later commit done halt (Put p f) (inl may) = subst (λ q. P (Put q f)) (sym may.0) (first f)
by_kind t P first later commit done halt (Put p f) (inr may) = subst (λ q. P (Put q f)) (sym may.0) (later f may.1)
by_kind t P first later commit done halt (Done e) may = done e
by_kind t P first later commit done halt (Halt w) may = halt w

pub by_order : (t : Machine) (P : Order → Type 0) → ((f : Forward) → P (Put FIRST f)) → ((f : Forward) → (t.trace ≡ [] → ⊥) → P (Put LATER f))
    → ((x : Record) → P (Commit x)) → ((e : End) → P (Done e)) → ((w : Fault) → P (Halt w)) → (o : Order) → IsAllowed t o → P o
by_order t P first later commit = by_kind t P first later (λ x may. commit x)

-- WHAT IS LEFT at most, of a machine that was told something, once it has ordered: more only if short addresses are asked again
abbrev pub Leaves : ℕ → Machine → Machine → ℕ → Type 0
Leaves u t n most = left u n + granted u t.course.tally.askings ≤ most + granted u n.course.tally.askings

-- on another course: no more than to the addresses that were not looked at
pub moved_left : (u : ℕ) (t n : Machine) (d : Course) → n.course ≡ d → Moves t.course d → Leaves u t n (beyond u t.course.from)
moved_left u t n d is moves =
    subst (λ k. left u n + granted u t.course.tally.askings ≤ beyond u t.course.from + granted u k) (sym askings) (rw (way, from) (go moves.on)) where
      way : n.course.way ≡ Surveying
      way = ap (λ (c : Course). c.way) is ∙ moves.way

      from : n.course.from ≡ d.from
      from = ap (λ (c : Course). c.from) is

      askings : n.course.tally.askings ≡ d.tally.askings
      askings = ap (λ (c : Course). c.tally.askings) is

      most : (last : Option Order) → of_last u n last ≤ u + 2
      most (Some (Put p f)) = of_purpose_most u n.asked n.course.purpose (stage_of n.trace)
      most _ = omega arith

      none : (last : Option Order) → ((k j : ℕ) (s : Stage) → of_purpose k j d.purpose s ≡ 0) → of_last u n last ≡ 0
      none (Some (Put p f)) asks = rw (ap (λ (c : Course). c.purpose) is) (asks u n.asked (stage_of n.trace))
      none _ asks = refl

      further : (first : ℕ) → Further first d → beyond u d.from + of_last u n n.last ≤ beyond u first
      further first (inl same) =
          let fewer : beyond u d.from ≤ beyond u first = mul-le-mul_left (u + 2) same.0 in
          rw (none n.last same.1) (omega (arith, fewer))
      further first (inr less) =
          let fewer : beyond u d.from + (u + 2) ≤ beyond u first = beyond_less u first d.from less.0 less.1 in
          let some : of_last u n n.last ≤ u + 2 = most n.last in
          omega (arith, fewer, some)

      go : ((d.tally.askings ≡ t.course.tally.askings) × Further t.course.from d)
          ⊎ ((t.course.tally.askings < 6) × (d.tally.askings ≡ t.course.tally.askings + 1) × Further 0 d)
          → beyond u d.from + of_last u n n.last + granted u t.course.tally.askings ≤ beyond u t.course.from + granted u d.tally.askings
      go (inl same) = let fewer = further t.course.from same.1 in rw same.0 (omega (arith, fewer))
      go (inr again) =
          let fewer : beyond u d.from + of_last u n n.last ≤ beyond u 0 = further 0 again.2 in
          let all : beyond u 0 ≤ (u + 2) * 64 = beyond_most u 0 in
          let more : granted u d.tally.askings ≡ granted u t.course.tally.askings + (u + 2) * 64 =
          ap (granted u) again.1 ∙ granted_more u t.course.tally.askings in
          omega (arith, fewer, all, more)

-- on the same course
pub still_left : (u : ℕ) (t n : Machine) (most : ℕ) → n.course ≡ t.course → left u n ≤ most → Leaves u t n most
still_left u t n most is few =
    let same : n.course.tally.askings ≡ t.course.tally.askings = ap (λ (c : Course). c.tally.askings) is in rw same (omega (arith, few))

-- on the same course: what the outstanding frame leaves, too
pub same_left : (u : ℕ) (t n : Machine) → n.course ≡ t.course → t.course.way ≡ Surveying → left u n ≡ beyond u t.course.from + of_last u n n.last
same_left u t n is surveys =
    let way : n.course.way ≡ Surveying = ap (λ c. c.way) is ∙ surveys in
    let from : n.course.from ≡ t.course.from = ap (λ c. c.from) is in
    rw (way, from) refl

-- ---------------------------------------------------------------- a frame of the census

-- WHERE the transaction of a question is: which frame is sent after which
abbrev pub Asks : ℕ → Stage → Command → Type 0
Asks a s c =
    ((s ≡ stage.Free) × (c ≡ RandomByte a High)) ⊎ (((b : ℕ) × (x : ℕ) × (s ≡ stage.HighAsked b (Some x)) × (c ≡ RandomByte b Middle) × (b ≡ a))
    ⊎ ((b : ℕ) × (x : ℕ × ℕ) × (s ≡ stage.MiddleAsked b (Some x)) × (c ≡ RandomByte b Low) × (b ≡ a)))

same_asked : (a b : ℕ) → (Asking a ≡ Resolving b) ⊎ (Asking a ≡ Asking b) → b ≡ a
same_asked a b (inl e) = absurd (cc)
same_asked a b (inr e) = cc

pub asks_of : (k : Kept) (n : SearchAddress) (a : ℕ) (s : Stage) (c : Command) → Sends k n (Asking a) s c → Asks a s c
asks_of k n a stage.Free c sends = inl (refl, sends.0)
asks_of k n a (stage.HighAsked b (Some x)) c sends = inr (inl (b, x, refl, sym (some_same (RandomByte b Middle) c sends.0), same_asked a b sends.1.0))
asks_of k n a (stage.MiddleAsked b (Some x)) c sends = inr (inr (b, x, refl, sym (some_same (RandomByte b Low) c sends.0), same_asked a b sends.1.0))
asks_of k n a (stage.Unnamed r) c sends = absurd (let other = sends.0 in cc)
asks_of k n a (stage.Hunted r last left) c sends = absurd sends
asks_of k n a _ c sends = absurd (let none = sends.0 in cc)

-- a machine that sends a later frame is where that frame is sent
pub later_asks : (t : Machine) (f : Forward) (a : ℕ) (s : Stage) → t.course.purpose ≡ Asking a → stage_of t.trace ≡ s → IsUnasked s t.course.purpose
    → IsWhole (machine_ordered t (Put LATER f)) → Asks a s (command_of f)
later_asks t f a s purpose at unasked whole =
    asks_of t.kept t.course.number a s (command_of f) (subst (λ r. Sends t.kept t.course.number (Asking a) r (command_of f)) at
    (subst (λ p. Sends t.kept t.course.number p (stage_of t.trace) (command_of f)) purpose
    (subst (λ (c : Course). Sends t.kept c.number c.purpose (stage_of t.trace) (command_of f)) (course_stays t s at unasked) whole.sends)))

-- silence is asked again with one frame less to go
silent_less : (u k a j : ℕ) (h : Answer) → j ≡ asked_at (stage.HighAsked a (byte_heard h)) h k → (j == 0) ≡ false → waits u j + 1 ≤ waits u k
silent_less u zero a j Silence is some = rw is (omega arith)
silent_less u (suc zero) a j Silence is some = rw is (omega arith)
silent_less u (suc (suc k)) a j Silence is some =
    let past : nat_lt (suc (suc k)) 2 ≡ false = grind (arith, nat_tests) in
    let none : asked_after_silence (suc (suc k)) ≡ 0 = rw past refl in
    absurd (let zero_again : (j == 0) ≡ true = rw (is, none) refl in cc)
silent_less u k a j (Byte v) is some = absurd (let none : (j == 0) ≡ true = rw is refl in cc)
silent_less u k a j Damaged is some = absurd (let none : (j == 0) ≡ true = rw is refl in cc)

-- one frame less, with so many that may still be sent to the address that is asked
abbrev pub OneLess : ℕ → Machine → Machine → ℕ → Type 0
OneLess u t n some = 1 + left u n + granted u t.course.tally.askings ≤ beyond u t.course.from + some + granted u n.course.tally.askings

one_still : (u : ℕ) (t n : Machine) (some : ℕ) → n.course ≡ t.course → 1 + left u n ≤ beyond u t.course.from + some → OneLess u t n some
one_still u t n some is less =
    let same : n.course.tally.askings ≡ t.course.tally.askings = ap (λ (c : Course). c.tally.askings) is in rw same (omega (arith, less))

one_moved : (u : ℕ) (t n : Machine) (d : Course) (some : ℕ) → 1 ≤ some → n.course ≡ d → Moves t.course d → OneLess u t n some
one_moved u t n d some one is moves = let few = moved_left u t n d is moves in omega (arith, few, one)

-- the first query was heard
first_left : (u : ℕ) (t : Machine) (a k : ℕ) (h : Answer) → 1 ≤ u → t.course.way ≡ Surveying → t.course.purpose ≡ Asking a → t.course.opened ≡ false
    → stage_of t.trace ≡ stage.HighAsked a (byte_heard h) → t.asked ≡ asked_at (stage.HighAsked a (byte_heard h)) h k → (h ≡ Silence) ⊎ (3 ≤ waits u k)
    → (o : Order) → IsAllowed t o → IsWhole (machine_ordered t o) → OneLess u t (machine_ordered t o) (waits u k)
first_left u t a k h one surveys purpose unopened at asked steady =
    by_order t (λ o. IsWhole (machine_ordered t o) → OneLess u t (machine_ordered t o) (waits u k)) first later
    (λ x whole. rest (machine_ordered t (Commit x)) refl refl) (λ e whole. rest (machine_ordered t (Done e)) refl refl)
    (λ w whole. rest (machine_ordered t (Halt w)) refl refl) where
      least : 1 ≤ waits u k
      least = waits_least u k one

      rest : (n : Machine) → n.course ≡ t.course → of_last u n n.last ≡ 0 → OneLess u t n (waits u k)
      rest n is none = one_still u t n (waits u k) is (rw (same_left u t n is surveys, none) (omega (arith, least)))

      first : (f : Forward) → IsWhole (machine_ordered t (Put FIRST f)) → OneLess u t (machine_ordered t (Put FIRST f)) (waits u k)
      first f whole = go (t.asked == 0) refl where
        begins : next_course t ≡ asked_once t (t.asked == 0)
        begins = ap (begins_at t) at

        go : (b : Bool) → (t.asked == 0) ≡ b → OneLess u t (machine_ordered t (Put FIRST f)) (waits u k)
        go true is = one_moved u t (machine_ordered t (Put FIRST f)) (goes_on_to t) (waits u k) least (begins ∙ ap (asked_once t) is) (goes_moves t surveys)
        go false is =
            let on : next_course t ≡ t.course = begins ∙ ap (asked_once t) is in
            let again : of_last u (machine_ordered t (Put FIRST f)) (Some (Put FIRST f)) ≡ waits u t.asked = rw (on, purpose, stage_none, unopened) refl in
            let fewer : waits u t.asked + 1 ≤ waits u k = silent_less u k a t.asked h asked is in
            one_still u t (machine_ordered t (Put FIRST f)) (waits u k) on
            (rw (same_left u t (machine_ordered t (Put FIRST f)) on surveys, again) (omega (arith, fewer)))

      stays : course_on t (stage_of t.trace) ≡ t.course
      stays = course_stays t (stage.HighAsked a (byte_heard h)) at tt

      later : (f : Forward) → (t.trace ≡ [] → ⊥) → IsWhole (machine_ordered t (Put LATER f)) → OneLess u t (machine_ordered t (Put LATER f)) (waits u k)
      later f running whole =
          go steady (later_asks t f a (stage.HighAsked a (byte_heard h)) purpose at tt whole) where
            two : of_last u (machine_ordered t (Put LATER f)) (Some (Put LATER f)) ≡ 2
            two = rw (stays, at, purpose) refl

            go : (h ≡ Silence) ⊎ (3 ≤ waits u k) → Asks a (stage.HighAsked a (byte_heard h)) (command_of f)
                → OneLess u t (machine_ordered t (Put LATER f)) (waits u k)
            go (inr enough) asks =
                one_still u t (machine_ordered t (Put LATER f)) (waits u k) stays
                (rw (same_left u t (machine_ordered t (Put LATER f)) stays surveys, two) (omega (arith, enough)))
            go (inl silent) (inl other) = absurd (let never = other.0 in cc)
            go (inl silent) (inr (inl (b, x, same, c, here))) =
                absurd (let none : stage.HighAsked a None ≡ stage.HighAsked b (Some x) = ap (λ r. stage.HighAsked a (byte_heard r)) (sym silent) ∙ same in cc)
            go (inl silent) (inr (inr (b, x, same, c, here))) = absurd (cc)

-- a later query was heard: more of the transaction follows, or another begins
over_left : (u : ℕ) (t : Machine) (a r : ℕ) (s : Stage) → 1 ≤ r → t.course.way ≡ Surveying → t.course.purpose ≡ Asking a → stage_of t.trace ≡ s
    → IsUnasked s t.course.purpose → begins_at t s ≡ goes_on_to t → ((k : ℕ) (c : Command) → Asks a s c → at_stage u k s + 1 ≤ r) → (o : Order) → IsAllowed t o
    → IsWhole (machine_ordered t o) → OneLess u t (machine_ordered t o) r
over_left u t a r s one surveys purpose at unasked over more =
    by_order t (λ o. IsWhole (machine_ordered t o) → OneLess u t (machine_ordered t o) r) first later (λ x whole. rest (machine_ordered t (Commit x)) refl refl)
    (λ e whole. rest (machine_ordered t (Done e)) refl refl) (λ w whole. rest (machine_ordered t (Halt w)) refl refl) where
      rest : (n : Machine) → n.course ≡ t.course → of_last u n n.last ≡ 0 → OneLess u t n r
      rest n is none = one_still u t n r is (rw (same_left u t n is surveys, none) (omega (arith, one)))

      first : (f : Forward) → IsWhole (machine_ordered t (Put FIRST f)) → OneLess u t (machine_ordered t (Put FIRST f)) r
      first f whole = one_moved u t (machine_ordered t (Put FIRST f)) (goes_on_to t) r one (ap (begins_at t) at ∙ over) (goes_moves t surveys)

      later : (f : Forward) → (t.trace ≡ [] → ⊥) → IsWhole (machine_ordered t (Put LATER f)) → OneLess u t (machine_ordered t (Put LATER f)) r
      later f running whole =
          let stays : course_on t (stage_of t.trace) ≡ t.course = course_stays t s at unasked in
          let here : of_last u (machine_ordered t (Put LATER f)) (Some (Put LATER f)) ≡ at_stage u (asked_by t.course.opened t.asked) s =
          rw (stays, purpose, at) refl in
          let fewer : at_stage u (asked_by t.course.opened t.asked) s + 1 ≤ r =
          more (asked_by t.course.opened t.asked) (command_of f) (later_asks t f a s purpose at unasked whole) in
          one_still u t (machine_ordered t (Put LATER f)) r stays
          (rw (same_left u t (machine_ordered t (Put LATER f)) stays surveys, here) (omega (arith, fewer)))

pub self : (b : ℕ) → (b == b) ≡ true
self b = grind (arith, nat_tests)

-- a machine that put a frame sends it
pub sending_of : (m : Machine) (p : ℕ) (f : Forward) → m.last ≡ Some (Put p f) → IsWhole m → IsSending m f
sending_of m p f = go m.last where
  go : (l : Option Order) → l ≡ Some (Put p f) → Pending m l → IsSending m f
  go (Some (Put q g)) e w = subst (IsSending m) (let same : g ≡ f = cc in same) w
  go _ e w = absurd (cc)

-- a frame of the census that was heard
pub sent_left : (u : ℕ) (m : Machine) (h : Answer) (p : ℕ) (f : Forward) (a : ℕ) → 1 ≤ u → m.course.way ≡ Surveying → m.course.purpose ≡ Asking a
    → m.last ≡ Some (Put p f) → IsWhole m → (h ≡ Silence) ⊎ (3 ≤ waits u m.asked) → (o : Order) → IsAllowed (machine_heard m (Some f) h) o
    → IsWhole (machine_ordered (machine_heard m (Some f) h) o)
    → 1 + left u (machine_ordered (machine_heard m (Some f) h) o) + granted u m.course.tally.askings ≤ left u m + granted u
    (machine_ordered (machine_heard m (Some f) h) o).course.tally.askings
sent_left u m h p f a one surveys purpose last whole steady o may after =
    subst (λ r. 1 + left u (machine_ordered (machine_heard m (Some f) h) o) + granted u m.course.tally.askings ≤ r + granted u
    (machine_ordered (machine_heard m (Some f) h) o).course.tally.askings) (sym here)
    (go (asks_of m.kept m.course.number a (stage_of m.trace) (command_of f) sends)) where
      waiting : of_last u m m.last ≡ at_stage u m.asked (stage_of m.trace)
      waiting = rw (last, purpose) refl

      here : left u m ≡ beyond u m.course.from + at_stage u m.asked (stage_of m.trace)
      here = same_left u m m refl surveys ∙ ap (λ r. beyond u m.course.from + r) waiting

      sends : Sends m.kept m.course.number (Asking a) (stage_of m.trace) (command_of f)
      sends = subst (λ q. Sends m.kept m.course.number q (stage_of m.trace) (command_of f)) purpose (sending_of m p f last whole).sends

      at : stage_of (machine_heard m (Some f) h).trace ≡ next_stage (stage_of m.trace) (command_of f) h
      at = stage_more m.trace (record { frame = f; heard = h })

      unopened : m.course.opened ≡ false
      unopened =
          (subst (λ q. Knows m.course.way m.kept m.course.number m.course.search m.course.ascent m.course.opened q) purpose
          (sending_of m p f last whole).ready.knows).0

      go : Asks a (stage_of m.trace) (command_of f)
          → OneLess u (machine_heard m (Some f) h) (machine_ordered (machine_heard m (Some f) h) o) (at_stage u m.asked (stage_of m.trace))
      go (inl (free, high)) =
          let next : next_stage (stage_of m.trace) (command_of f) h ≡ stage.HighAsked a (byte_heard h) = rw (free, high) refl in
          let silent : (machine_heard m (Some f) h).asked ≡ asked_at (stage.HighAsked a (byte_heard h)) h m.asked = rw (purpose, at ∙ next) refl in
          rw free (first_left u (machine_heard m (Some f) h) a m.asked h one surveys purpose unopened (at ∙ next) silent steady o may after)
      go (inr (inl (b, x, same, middle, one_asked))) =
          let next : next_stage (stage_of m.trace) (command_of f) h ≡ stage.MiddleAsked b (bytes_heard (Some x) h) = rw (same, middle, self b) refl in
          rw same (over_left u (machine_heard m (Some f) h) a 2 (stage.MiddleAsked b (bytes_heard (Some x) h)) (omega arith) surveys purpose (at ∙ next)
          tt refl (λ k c asks. omega arith) o may after)
      go (inr (inr (b, x, same, low, one_asked))) =
          let next : next_stage (stage_of m.trace) (command_of f) h ≡ stage.Spelled b (number_heard (Some x) h) = rw (same, low, self b) refl in
          rw same (over_left u (machine_heard m (Some f) h) a 1 (stage.Spelled b (number_heard (Some x) h)) (omega arith) surveys purpose (at ∙ next)
          tt refl (λ k c asks. absurd (never asks)) o may after) where
            never : {n : Option ℕ} {c : Command} → Asks a (stage.Spelled b n) c → ⊥
            never (inl is) = let other = is.0 in cc
            never (inr (inl is)) = let other = is.2 in cc
            never (inr (inr is)) = let other = is.2 in cc
