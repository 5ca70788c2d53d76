use Rattle.dali_progress.proofs.Below.{◌≡◌, ℕ, ◌+◌, ◌*◌, ◌%◌, ◌^◌, ◌<◌, ◌≤◌, ◌⊎◌, inl, inr, Bool, true, false, List, [], ◌∷◌, refl, sym, ap, subst, ◌∙◌, arith}
use Rattle.dali_progress.proofs.Below.{Option, Some, None, w64, ◌==◌, ◌&&◌, ◌||◌, ◌-◌, nat_eq, max, not, is_some, zero, suc, MatchOption, if◌then◌else◌, bit_or}
use Rattle.dali_progress.proofs.Below.{nat_tests, bit_at_or, bit_at-lt, bit_at_set_same, bit_at_clear_other, bit_at, FIRST, LATER, value_of, MASK24, Answer}
use Rattle.dali_progress.proofs.Below.{Silence, Byte, Damaged, Forward, SearchAddress, frame_of, due_after, accepts, frame_put, record_ordered, Kept}
use Rattle.dali_progress.proofs.Below.{Assignment, Has, HasAddress, stage_of, Fault, Input, Order, Put, Commit, Done, Halt, Record, Reserve, Enrol, Stage}
use Rattle.dali_progress.proofs.Below.{has_last, has_map, enrolled_stays, Course, first_of, number_at, address_for, is_open, open_among, least_open, is_another}
use Rattle.dali_progress.proofs.Below.{is_anothers, Machine, machine_told, machine_heard, machine_committed, heard_after, marked_at, is_withheld}
use Rattle.dali_progress.proofs.Below.{is_withheld_by, machine_surveying, machine_lost, course_by, next_course, beginning, IsGiven, IsSought, IsAnswered}
use Rattle.dali_progress.proofs.Below.{IsOrdered, AfterFinding, AfterReserved, AfterMaskBy, AfterMaskOn, AfterMaskSurveyed, machine_after, machine_ordered}
use Rattle.dali_progress.proofs.Below.{has_short, with_short, without_short, Purpose, Asking, Shorts, Way, Fresh, Surveying, found_number, IsNamed, Step}
use Rattle.dali_progress.proofs.{Below.{IsTaken, IsCourse, stage_told, heard_at, heard_by, WasHeard, IsPlain, ArePlain, IsAccounted}, Later.later_leaves}
use Rattle.dali_progress.proofs.Later.{some_same}
use Rattle.dali_script.specs.declared.orders.Due.TheVariants as due
use Rattle.dali_script.specs.declared.orders.Fault.TheVariants as fault
use Rattle.dali_script.specs.declared.orders.Input.TheVariants as input
use Rattle.dali_script.specs.declared.stage.Stage.TheVariants as stage

-- WHO WAS HEARD IN A SURVEY IS ACCOUNTED FOR.

-- ---------------------------------------------------------------- marks

one_is : (n : ℕ) → (n == 1) ≡ true → n ≡ 1
one_is n e = grind (arith, nat_tests)

with_keeps : (s : Shorts) (b a : ℕ) → has_short s a ≡ true → has_short (with_short s b) a ≡ true
with_keeps s b a has =
    let one : bit_at s.bits a ≡ 1 = one_is (bit_at s.bits a) has in
    let other : bit_at (1 * 2 ^ b % 2 ^ 64) a < 2 = bit_at-lt (1 * 2 ^ b % 2 ^ 64) a in
    let both : bit_at (bit_or s.bits (1 * 2 ^ b % 2 ^ 64)) a ≡ max (bit_at s.bits a) (bit_at (1 * 2 ^ b % 2 ^ 64) a) =
    bit_at_or s.bits (1 * 2 ^ b % 2 ^ 64) a in
    ap (λ n. n == 1) (both ∙ greater (bit_at s.bits a) (bit_at (1 * 2 ^ b % 2 ^ 64) a) one other)
  where
    greater : (x y : ℕ) → x ≡ 1 → y < 2 → max x y ≡ 1
    greater x y one less = omega (arith, one, less)

pub with_has : (s : Shorts) (c a : ℕ) → c ≡ a → a < 64 → has_short (with_short s c) a ≡ true
with_has s c a same small = subst (λ x. has_short (with_short s x) a ≡ true) (sym same) (ap (λ n. n == 1) (bit_at_set_same w64 s.bits a small))

without_keeps : (s : Shorts) (c a : ℕ) → c < 64 → a < 64 → (a ≡ c → ⊥) → has_short s a ≡ true → has_short (without_short s c) a ≡ true
without_keeps s c a within small apart has = ap (λ n. n == 1) (bit_at_clear_other w64 s.bits c within a small apart) ∙ has

-- what an answer leaves: the mark, or a number that gear draw
abbrev pub Leaves : Purpose → Stage → Shorts → ℕ → Type 0
Leaves p s heard a = (has_short heard a ≡ true) ⊎ ((b : ℕ) × (p ≡ Asking b) × ((n : ℕ) × (s ≡ stage.Spelled a (Some n)) × (n < MASK24)))

spelled_leaves : (b c n a : ℕ) (heard : Shorts) → (c < 64) × (n ≤ MASK24) → a < 64 → ((c ≡ a → ⊥) → has_short heard a ≡ true)
    → Leaves (Asking b) (stage.Spelled c (Some n)) (if n == MASK24 then with_short heard c else without_short heard c) a
spelled_leaves b c n a heard plain small has = go (n == MASK24) refl (nat_eq c a) refl where
  go : (t : Bool) → (n == MASK24) ≡ t → (u : Bool) → nat_eq c a ≡ u
      → Leaves (Asking b) (stage.Spelled c (Some n)) (if t then with_short heard c else without_short heard c) a
  go true top true same = let is : c ≡ a = grind (arith, nat_tests) in inl (with_has heard c a is small)
  go true top false other = inl (with_keeps heard c a (has (let apart : c ≡ a → ⊥ = grind (arith, nat_tests) in apart)))
  go false low true same =
      let is : c ≡ a = grind (arith, nat_tests) in
      let apart : n ≡ MASK24 → ⊥ = grind (arith, nat_tests) in
      inr (b, refl, (n, ap (λ x. stage.Spelled x (Some n)) is, omega (arith, plain.1, apart)))
  go false low false other =
      let apart : c ≡ a → ⊥ = grind (arith, nat_tests) in
      inl (without_keeps heard c a plain.0 small (λ e. apart (sym e)) (has apart))

asked_keeps : (b : ℕ) (s : Stage) (h : Answer) (heard : Shorts) (a : ℕ) → a < 64 → IsPlain s → has_short heard a ≡ true
    → Leaves (Asking b) s (marked_at s h heard) a
asked_keeps b (stage.HighAsked c None) Silence heard a small plain has = inl has
asked_keeps b (stage.HighAsked c None) (Byte v) heard a small plain has = inl (with_keeps heard c a has)
asked_keeps b (stage.HighAsked c None) Damaged heard a small plain has = inl (with_keeps heard c a has)
asked_keeps b (stage.HighAsked c (Some x)) h heard a small plain has = inl (with_keeps heard c a has)
asked_keeps b (stage.MiddleAsked c bytes) h heard a small plain has = inl (with_keeps heard c a has)
asked_keeps b (stage.Spelled c None) h heard a small plain has = inl (with_keeps heard c a has)
asked_keeps b (stage.Spelled c (Some n)) h heard a small plain has = spelled_leaves b c n a heard plain small (λ apart. has)
asked_keeps b _ h heard a small plain has = inl has

marks_keep : (p : Purpose) (s : Stage) (h : Answer) (heard : Shorts) (a : ℕ) → a < 64 → IsPlain s → has_short heard a ≡ true
    → Leaves p s (heard_after p s h heard) a
marks_keep (Asking b) s h heard a small plain has = asked_keeps b s h heard a small plain has
marks_keep _ s h heard a small plain has = inl has

marks_made : (b : ℕ) (s : Stage) (h : Answer) (heard : Shorts) (a : ℕ) → a < 64 → IsPlain s → heard_at s h ≡ Some a
    → Leaves (Asking b) s (marked_at s h heard) a
marks_made b (stage.HighAsked c high) Silence heard a small plain e = absurd (cc)
marks_made b (stage.HighAsked c None) (Byte v) heard a small plain e = inl (with_has heard c a (some_same c a e) small)
marks_made b (stage.HighAsked c None) Damaged heard a small plain e = inl (with_has heard c a (some_same c a e) small)
marks_made b (stage.HighAsked c (Some x)) (Byte v) heard a small plain e = inl (with_has heard c a (some_same c a e) small)
marks_made b (stage.HighAsked c (Some x)) Damaged heard a small plain e = inl (with_has heard c a (some_same c a e) small)
marks_made b (stage.MiddleAsked c bytes) h heard a small plain e = inl (with_has heard c a (some_same c a e) small)
marks_made b (stage.Spelled c None) h heard a small plain e = inl (with_has heard c a (some_same c a e) small)
marks_made b (stage.Spelled c (Some n)) h heard a small plain e = spelled_leaves b c n a heard plain small (λ apart. absurd (apart (some_same c a e)))
marks_made b _ h heard a small plain e = absurd (cc)

-- ---------------------------------------------------------------- one step

-- who is named is accounted for
named_counts : (m : Machine) (a r : ℕ) → IsNamed m a r → IsAccounted m a
named_counts m a r (inl has) = inr (inl (r, has))
named_counts m a r (inr (inl last)) = inr (inr (inl (r, last)))
named_counts m a r (inr (inr halts)) = inr (inr (inr halts))

-- what follows three bytes that told a number
named : (t : Machine) (a r : ℕ) (o : Order) → AfterFinding t a r o → IsNamed (machine_ordered t o) a r
named t a r (Put p f) is = inl is
named t a r (Commit x) is = inr (inl (ap (λ y. Some (Commit y)) is))
named t a r (Done e) is = elim is [ ]
named t a r (Halt w) is = inr (inr (w, refl))

put_of : (last : Option Order) (h : Answer) → accepts (due_after last) (input.Heard h) ≡ true → (f : Forward) × (frame_put last ≡ Some f)
put_of (Some (Put p f)) h e = (f, refl)
put_of _ h e = absurd (cc)

told_heard : (m : Machine) (f : Forward) (h : Answer) → frame_put m.last ≡ Some f
    → (machine_told m (input.Heard h)).heard ≡ heard_after m.course.purpose (stage_of (machine_told m (input.Heard h)).trace) h m.heard
told_heard m f h e = rw e refl

told_course : (m : Machine) (f : Forward) (h : Answer) → frame_put m.last ≡ Some f → (machine_told m (input.Heard h)).course ≡ m.course
told_course m f h e = rw e refl

pub named_by : (m : Machine) (h : Answer) (o : Order) (a b r : ℕ) → accepts (due_after m.last) (input.Heard h) ≡ true → IsGiven m (input.Heard h) o
    → m.course.purpose ≡ Asking b → stage_of (machine_told m (input.Heard h)).trace ≡ stage.Spelled a (Some r) → r < MASK24
    → IsNamed (machine_after m (input.Heard h) o) a r
named_by m h o a b r due given asks told drawn =
    let put = put_of m.last h due in
    let purpose : (machine_told m (input.Heard h)).course.purpose ≡ Asking b = ap (λ c. c.purpose) (told_course m put.0 h put.1) ∙ asks in
    let sought : IsSought (machine_told m (input.Heard h)).course.purpose (machine_told m (input.Heard h)).course.number r =
    subst (λ p. IsSought p (machine_told m (input.Heard h)).course.number r) (sym purpose) drawn in
    named (machine_told m (input.Heard h)) a r o (given.followed.told a r told sought)

heard_step : (m : Machine) (h : Answer) (o : Order) (a : ℕ) → accepts (due_after m.last) (input.Heard h) ≡ true → IsGiven m (input.Heard h) o
    → Leaves m.course.purpose (stage_of (machine_told m (input.Heard h)).trace)
    (heard_after m.course.purpose (stage_of (machine_told m (input.Heard h)).trace) h m.heard) a → IsAccounted (machine_after m (input.Heard h) o) a
heard_step m h o a due given (inl marked) =
    let put = put_of m.last h due in
    inl (ap (λ s. has_short s a) (told_heard m put.0 h put.1) ∙ marked)
heard_step m h o a due given (inr (b, asks, (n, told, less))) =
    named_counts (machine_after m (input.Heard h) o) a n (named_by m h o a b n due given asks told less)

committed_heard : (m : Machine) (x : Option Record) → (machine_committed m x).heard ≡ m.heard
committed_heard m None = refl
committed_heard m (Some x) = refl

-- what a machine is told leaves what each way to be told something leaves
pub told_keeps : (P : Machine → Type 0) (m : Machine) (i : Input) → P m → P (machine_surveying m)
    → ((f : Forward) (h : Answer) → P (machine_heard m (Some f) h)) → P (machine_lost m) → ((x : Record) → P (machine_committed m (Some x)))
    → P (machine_told m i)
told_keeps P m (input.Heard h) is surveys heard lost kept = go (frame_put m.last) where
  go : (f : Option Forward) → P (machine_heard m f h)
  go None = is
  go (Some f) = heard f h
told_keeps P m input.Committed is surveys heard lost kept = go (record_ordered m.last) where
  go : (x : Option Record) → P (machine_committed m x)
  go None = is
  go (Some x) = kept x
told_keeps P m input.Survey is surveys heard lost kept = surveys
told_keeps P m input.Destroyed is surveys heard lost kept = lost
told_keeps P m input.Lapsed is surveys heard lost kept = lost
told_keeps P m _ is surveys heard lost kept = is

pub told_enrolled : (m : Machine) (i : Input) (y : Assignment) → Has m.kept.enrolled y → Has (machine_told m i).kept.enrolled y
told_enrolled m i y has = told_keeps (λ t. Has t.kept.enrolled y) m i has has (λ f h. has) has (λ x. enrolled_stays m.kept x y has)

-- an enrolment that is ordered is kept, or the machine halts
pub enrolling : (m : Machine) (i : Input) (o : Order) (a r : ℕ) → m.last ≡ Some (Commit (Enrol a r)) → accepts (due_after m.last) i ≡ true → IsGiven m i o
    → IsNamed (machine_after m i o) a r
enrolling m i o a r last waits given = go i (subst (λ l. accepts (due_after l) i ≡ true) last waits) given where
  go : (i : Input) → accepts due.Store i ≡ true → IsGiven m i o → IsNamed (machine_after m i o) a r
  go input.Committed e given = inl (rw last (has_last m.kept.enrolled (a, r)))
  go input.CommitFailed e given = inr (inr (fault.Store, ap Some given.answered))
  go _ e given = absurd (cc)

marked_step : (m : Machine) (i : Input) (o : Order) (a : ℕ) → a < 64 → IsPlain (stage_of (machine_told m i).trace) → accepts (due_after m.last) i ≡ true
    → IsGiven m i o → has_short m.heard a ≡ true → IsAccounted (machine_after m i o) a
marked_step m (input.Heard h) o a small plain due given has =
    heard_step m h o a due given (marks_keep m.course.purpose (stage_of (machine_told m (input.Heard h)).trace) h m.heard a small plain has)
marked_step m input.Committed o a small plain due given has = inl (ap (λ s. has_short s a) (committed_heard m (record_ordered m.last)) ∙ has)
marked_step m _ o a small plain due given has = inl has

pub never_due : (last : Option Order) (w : Fault) (i : Input) → last ≡ Some (Halt w) → accepts (due_after last) i ≡ true → ⊥
never_due last w i is due = let none : false ≡ true = subst (λ l. accepts (due_after l) i ≡ true) is due in cc

pub accounted_stays : (s : Step) (n : Machine) (a : ℕ) → a < 64 → IsTaken s n → IsPlain (stage_told s) → IsAccounted s.before a → IsAccounted n a
accounted_stays s n a small taken plain was = subst (λ (x : Machine). IsAccounted x a) (sym taken.after) (go was) where
  go : IsAccounted s.before a → IsAccounted (machine_after s.before s.told s.order) a
  go (inl has) = marked_step s.before s.told s.order a small plain taken.due taken.given has
  go (inr (inl (r, has))) = inr (inl (r, told_enrolled s.before s.told (a, r) has))
  go (inr (inr (inl (r, last)))) = named_counts (machine_after s.before s.told s.order) a r (enrolling s.before s.told s.order a r last taken.due taken.given)
  go (inr (inr (inr (w, last)))) = absurd (never_due s.before.last w s.told last taken.due)

heard_of_survey : (p : Purpose) (h : Answer) (s : Stage) (a : ℕ) → heard_by (input.Heard h) p s ≡ Some a → (b : ℕ) × (p ≡ Asking b) × (heard_at s h ≡ Some a)
heard_of_survey (Asking b) h s a e = (b, refl, e)
heard_of_survey _ h s a e = absurd (cc)

pub accounted_by : (m : Machine) (i : Input) (o : Order) (a : ℕ) → a < 64 → IsPlain (stage_of (machine_told m i).trace) → accepts (due_after m.last) i ≡ true
    → IsGiven m i o → heard_by i m.course.purpose (stage_of (machine_told m i).trace) ≡ Some a → IsAccounted (machine_after m i o) a
accounted_by m (input.Heard h) o a small plain due given e =
    let is = heard_of_survey m.course.purpose h (stage_of (machine_told m (input.Heard h)).trace) a e in
    heard_step m h o a due given (subst (λ p. Leaves p (stage_of (machine_told m (input.Heard h)).trace)
    (heard_after p (stage_of (machine_told m (input.Heard h)).trace) h m.heard) a) (sym is.1)
    (marks_made is.0 (stage_of (machine_told m (input.Heard h)).trace) h m.heard a small plain is.2))
accounted_by m _ o a small plain due given e = absurd (cc)

-- ---------------------------------------------------------------- a course

pub accounted : (steps : List Step) (n : Machine) (a : ℕ) → a < 64 → IsCourse steps n → ArePlain steps → WasHeard steps a → IsAccounted n a
accounted [] n a small course plain heard = elim heard [ ]
accounted (s ∷ earlier) n a small course plain (inl here) =
    subst (λ (x : Machine). IsAccounted x a) (sym course.1.after) (accounted_by s.before s.told s.order a small plain.0 course.1.due course.1.given here)
accounted (s ∷ earlier) n a small course plain (inr before) =
    accounted_stays s n a small course.1 plain.0 (accounted earlier s.before a small course.0 plain.1 before)

-- ---------------------------------------------------------------- what is given

pub open_is : (k : Kept) (heard : Shorts) (n from a : ℕ) → open_among k heard n from ≡ Some a → is_open k heard a ≡ true
open_is k heard zero from a e = absurd (cc)
open_is k heard (suc n) from a e = go (is_open k heard from) refl e (open_is k heard n (from + 1) a) where
  go : (b : Bool) → is_open k heard from ≡ b → (if b then Some from else open_among k heard n (from + 1)) ≡ Some a
      → (open_among k heard n (from + 1) ≡ Some a → is_open k heard a ≡ true) → is_open k heard a ≡ true
  go true is e later = subst (λ x. is_open k heard x ≡ true) (some_same from a e) is
  go false is e later = later e

open_unmarked : (k : Kept) (heard : Shorts) (a : ℕ) → is_open k heard a ≡ true → has_short heard a ≡ true → ⊥
open_unmarked k heard a e has = go (is_some (number_at k.reserved a)) (is_some (number_at k.enrolled a)) (has_short heard a) has e where
  go : (one two three : Bool) → three ≡ true → (not one && not two && not three) ≡ true → ⊥
  go true two three marked e = cc
  go false true three marked e = cc
  go false false true marked e = cc
  go false false false marked e = cc

open_unenrolled : (k : Kept) (heard : Shorts) (a r : ℕ) → is_open k heard a ≡ true → Has k.enrolled (a, r) → ⊥
open_unenrolled k heard a r e has = go (is_some (number_at k.reserved a)) (number_at k.enrolled a) (found_number k.enrolled a) e where
  go : (one : Bool) (o : Option ℕ) → MatchOption o (HasAddress k.enrolled a → ⊥) (λ n. Has k.enrolled (a, n))
      → (not one && not (is_some o) && not (has_short heard a)) ≡ true → ⊥
  go true o found e = cc
  go false None none e = none (has_map (λ (q : Assignment). q.0) k.enrolled (a, r) has)
  go false (Some n) there e = cc

-- what a survey reserves is open
reserves_open : (t : Machine) (r : SearchAddress) (a n : ℕ) (reserved free : Option ℕ) → least_open t.kept t.heard ≡ free
    → AfterMaskBy t r reserved free (Commit (Reserve a n)) → is_open t.kept t.heard a ≡ true
reserves_open t r a n (Some b) free least is = absurd (given (is_withheld t b (value_of r)) is) where
  given : (w : Bool) → AfterReserved t b w (Commit (Reserve a n)) → ⊥
  given true is = cc
  given false is = cc
reserves_open t r a n None (Some c) least is =
    let same : c ≡ a = cc in
    subst (λ x. is_open t.kept t.heard x ≡ true) same (open_is t.kept t.heard (t.kept.block.last + 1 - t.kept.block.first) t.kept.block.first c least)
reserves_open t r a n None None least is = absurd (cc)

surveys_open : (y : Way) (t : Machine) (c : Course) (r : SearchAddress) (a n : ℕ) → (y ≡ Fresh → ⊥) → AfterMaskOn y t c r (Commit (Reserve a n))
    → is_open t.kept t.heard a ≡ true
surveys_open Fresh t c r a n other is = absurd (other refl)
surveys_open Surveying t c r a n other is = reserves_open t r a n (address_for t.kept.reserved (value_of r)) (least_open t.kept t.heard) refl is

ordered_open : (t : Machine) (a n : ℕ) → (t.course.way ≡ Fresh → ⊥) → IsOrdered t (Commit (Reserve a n)) → is_open t.kept t.heard a ≡ true
ordered_open t a n other ordered =
    let r = ordered.allowed.warranted.0 in
    surveys_open t.course.way t (course_by t (Commit (Reserve a n))) r a n other (ordered.unnamed r ordered.allowed.warranted.1)

given_open : (m : Machine) (i : Input) (a n : ℕ) → ((machine_told m i).course.way ≡ Fresh → ⊥) → IsAnswered m i (Commit (Reserve a n))
    → is_open (machine_told m i).kept (machine_told m i).heard a ≡ true
given_open m input.CommitFailed a n other answered = absurd (cc)
given_open m i a n other answered = ordered_open (machine_told m i) a n other answered

-- so it reserves no address that is accounted for
pub unreserved : (s : Step) (n : Machine) (a r : ℕ) → IsTaken s n → s.order ≡ Commit (Reserve a r) → (n.course.way ≡ Fresh → ⊥) → IsAccounted n a → ⊥
unreserved s n a r taken is other counts =
    let t : Machine = machine_told s.before s.told in
    let after : n ≡ machine_ordered t (Commit (Reserve a r)) = taken.after ∙ ap (machine_ordered t) is in
    let surveys : t.course.way ≡ Fresh → ⊥ = λ e. other (ap (λ (x : Machine). x.course.way) after ∙ e) in
    let open_there = given_open s.before s.told a r surveys (subst (IsAnswered s.before s.told) is taken.given.answered) in
    go t open_there (subst (λ (x : Machine). IsAccounted x a) after counts)
  where
    go : (t : Machine) → is_open t.kept t.heard a ≡ true → IsAccounted (machine_ordered t (Commit (Reserve a r))) a → ⊥
    go t free (inl marked) = open_unmarked t.kept t.heard a free marked
    go t free (inr (inl (q, has))) = open_unenrolled t.kept t.heard a q free has
    go t free (inr (inr (inl (q, last)))) = cc
    go t free (inr (inr (inr (w, last)))) = cc

-- and none under which some gear was heard
pub never_reserved : (s : Step) (earlier : List Step) (n : Machine) (a r : ℕ) → a < 64 → IsCourse (s ∷ earlier) n → ArePlain (s ∷ earlier)
    → s.order ≡ Commit (Reserve a r) → (n.course.way ≡ Fresh → ⊥) → WasHeard (s ∷ earlier) a → ⊥
never_reserved s earlier n a r small course plain is other heard = unreserved s n a r course.1 is other (accounted (s ∷ earlier) n a small course plain heard)

-- what is reserved is given unless it is another's
false_both : (one two : Bool) → (one || two) ≡ false → (one ≡ false) × (two ≡ false)
false_both true two e = absurd (cc)
false_both false two e = (refl, e)

unwithheld : (t : Machine) (y : Way) (a r : ℕ) → (y ≡ Fresh → ⊥) → t.course.opened ≡ true → is_withheld_by t y a r ≡ false
    → is_anothers t.kept t.heard a r ≡ false
unwithheld t Fresh a r other opened e = absurd (other refl)
unwithheld t Surveying a r other opened e = ap (λ o. o && is_anothers t.kept t.heard a r) (sym opened) ∙ e

same_number : (k r : ℕ) → not (k == r) ≡ false → k ≡ r
same_number k r e = grind (arith, nat_tests)

own_number : (k : Kept) (a q r : ℕ) → is_another r (number_at k.enrolled a) ≡ false → Has k.enrolled (a, q) → Has k.enrolled (a, r)
own_number k a q r e has = go (number_at k.enrolled a) (found_number k.enrolled a) e where
  go : (o : Option ℕ) → MatchOption o (HasAddress k.enrolled a → ⊥) (λ n. Has k.enrolled (a, n)) → is_another r o ≡ false → Has k.enrolled (a, r)
  go None none e = absurd (none (has_map (λ (x : Assignment). x.0) k.enrolled (a, q) has))
  go (Some n) there e = subst (λ m. Has k.enrolled (a, m)) (same_number n r e) there

programs_own : (t : Machine) (q : SearchAddress) (a : ℕ) (o : Order) (w : Bool) → AfterReserved t a w o → (p : ℕ) → (f : Forward) → o ≡ Put p f → p ≡ LATER
    → w ≡ false
programs_own t q a o true is p f put later =
    let first : Put p f ≡ beginning (next_course t) = sym put ∙ is in
    absurd (three_is_one (put_same p FIRST f (frame_of (first_of (next_course t).purpose (next_course t).number)) first ∙ refl) later)
  where
    put_same : (x y : ℕ) (g h : Forward) → Put x g ≡ Put y h → x ≡ y
    put_same x y g h e = cc

    three_is_one : p ≡ FIRST → p ≡ LATER → ⊥
    three_is_one one two = let both : FIRST ≡ LATER = sym one ∙ two in cc
programs_own t q a o false is p f put later = refl

pub surveyed_mask : (y : Way) (t : Machine) (c : Course) (q : SearchAddress) (o : Order) → (y ≡ Fresh → ⊥) → AfterMaskOn y t c q o → AfterMaskSurveyed t q o
surveyed_mask Fresh t c q o other is = absurd (other refl)
surveyed_mask Surveying t c q o other is = is

-- so if some gear was heard, the address is the gear's own
gives_own : (t : Machine) (q : SearchAddress) (a : ℕ) (p : ℕ) (f : Forward) → (t.course.way ≡ Fresh → ⊥) → t.course.opened ≡ true
    → stage_of t.trace ≡ stage.Unnamed q → address_for t.kept.reserved (value_of q) ≡ Some a → IsOrdered t (Put p f) → p ≡ LATER
    → IsAccounted (machine_ordered t (Put p f)) a → Has t.kept.enrolled (a, value_of q)
gives_own t q a p f other opened told reserved ordered later held =
    let mask : AfterMaskSurveyed t q (Put p f) = surveyed_mask t.course.way t (course_by t (Put p f)) q (Put p f) other (ordered.unnamed q told) in
    let here : AfterReserved t a (is_withheld t a (value_of q)) (Put p f) =
    subst (λ x. AfterMaskBy t q x (least_open t.kept t.heard) (Put p f)) reserved mask in
    let free : is_anothers t.kept t.heard a (value_of q) ≡ false =
    unwithheld t t.course.way a (value_of q) other opened (programs_own t q a (Put p f) (is_withheld t a (value_of q)) here p f refl later) in
    let both = false_both (has_short t.heard a) (is_another (value_of q) (number_at t.kept.enrolled a)) free in
    go both.0 both.1 held
  where
    go : has_short t.heard a ≡ false → is_another (value_of q) (number_at t.kept.enrolled a) ≡ false → IsAccounted (machine_ordered t (Put p f)) a
        → Has t.kept.enrolled (a, value_of q)
    go unmarked own (inl marked) = absurd (let both : true ≡ false = sym marked ∙ unmarked in cc)
    go unmarked own (inr (inl (r, has))) = own_number t.kept a r (value_of q) own has
    go unmarked own (inr (inr (inl (r, last)))) = absurd (cc)
    go unmarked own (inr (inr (inr (w, last)))) = absurd (cc)

given_ordered : (m : Machine) (i : Input) (p : ℕ) (f : Forward) → IsAnswered m i (Put p f) → IsOrdered (machine_told m i) (Put p f)
given_ordered m input.CommitFailed p f answered = absurd (cc)
given_ordered m _ p f answered = answered

pub never_given : (s : Step) (earlier : List Step) (n : Machine) (a : ℕ) (q : SearchAddress) (f : Forward) → a < 64 → IsCourse (s ∷ earlier) n
    → ArePlain (s ∷ earlier) → s.order ≡ Put LATER f → (n.course.way ≡ Fresh → ⊥) → n.course.opened ≡ true → stage_told s ≡ stage.Unnamed q
    → address_for n.kept.reserved (value_of q) ≡ Some a → WasHeard (s ∷ earlier) a → Has n.kept.enrolled (a, value_of q)
never_given s earlier n a q f small course plain is other opened told reserved heard =
    let t : Machine = machine_told s.before s.told in
    let after : n ≡ machine_ordered t (Put LATER f) = course.1.after ∙ ap (machine_ordered t) is in
    let own =
    gives_own t q a LATER f (λ e. other (ap (λ (x : Machine). x.course.way) (after ∙ later_leaves t f (stage.Unnamed q) told tt) ∙ e))
    (sym (ap (λ (x : Machine). x.course.opened) (after ∙ later_leaves t f (stage.Unnamed q) told tt)) ∙ opened) told
    (sym (ap (λ (x : Machine). address_for x.kept.reserved (value_of q)) after) ∙ reserved)
    (given_ordered s.before s.told LATER f (subst (IsAnswered s.before s.told) is course.1.given.answered)) refl
    (subst (λ (x : Machine). IsAccounted x a) after (accounted (s ∷ earlier) n a small course plain heard)) in
    subst (λ (x : Machine). Has x.kept.enrolled (a, value_of q)) (sym after) own
