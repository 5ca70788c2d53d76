use Rattle.std.proofs.Common.{◌≡◌, ℕ, Bool, true, false, ◌⊎◌, inl, inr, List, [], ◌∷◌, Option, Some, None, refl, sym, ap, subst}
use Rattle.std.proofs.Common.{if◌then◌else◌}
use Rattle.std.specs.Prelude.{Ok, Err}
use Rattle.dali_port.specs.Courses.{Course}
use Rattle.dali_port.specs.Courses as course
use Rattle.dali_port.specs.declared.orders.{Order.Order, Word.Word}
use Rattle.dali_port.specs.declared.orders.Word.TheVariants.{Heard, Destroyed}
use Rattle.dali_port.specs.declared.orders.Refusal.TheVariants.{Backwards, Busy}
use Rattle.dali_port.specs.Orders.{refusal_of}
use Rattle.dali_port.specs.Frames.{sent_until, same, driven_in, begun_at}
use Rattle.dali_frame.specs.declared.frames.Answer.{Answer}
use Rattle.dali_port.specs.State.{Port, Phase, Sent, Free, Waiting, Sending, Breaking, Listening}
use Rattle.dali_port.specs.Ports.{until, until_in, event_in, only, on_course, is_broken_off, edge_in, edged, lost, lost_in, lapsed_word}
use Rattle.dali_port.specs.Ports.{broken_at, spoilt}
use Rattle.dali_wire.specs.declared.receiver.Receiver.{Receiver}
use Rattle.dali_port.specs.Calls.{is_backwards, also, timed_in, timed_word, same_level, is_free, send_after_by, send_told_by}
use Rattle.dali_port.specs.Laws.{is_sending}
use Rattle.dali_port.specs.Runs.{Call, Sends, Times, Turns, Loses, after, told_by}
use Rattle.dali_port.specs.Stretches.{is_listening}
use Rattle.dali_bus_laws.specs.Table.{Table, table}
use Rattle.dali_bus_laws.specs.Breaks.{is_breaking}
use Rattle.dali_bus_laws.specs.Words.{word_of, or_next, first_word, IsCalled, IsSentWhole, IsBrokenOff}

-- THE WORD OF A FRAME says what became of it.

-- where a frame is that was being sent: nothing is told of it yet
abbrev Fate : Phase → Type 0
Fate ph = (is_sending ph ≡ true) ⊎ ((is_breaking ph ≡ true) ⊎ (is_listening ph ≡ true))

course_fate : (k : Course) (p q : Port) (s : Sent) (now : ℕ)
    → ((also (only None) (timed_word (on_course p s now k).phase (on_course p s now k) now)).word ≡ None)
    × Fate (timed_in (on_course p s now k).phase (on_course p s now k) now).phase
course_fate (course.Goes t) p q s now = (refl, inl refl)
course_fate course.Destroyed p q s now = (refl, inr (inl refl))
course_fate course.Whole p q s now = (refl, inr (inr refl))

edge_fate : (k : Course) (p : Port) (s : Sent) (low : Bool) (now : ℕ)
    → ((also (only None) (lapsed_word (on_course p s now k).phase)).word ≡ None) × Fate (edged (on_course p s now k) low now).phase
edge_fate (course.Goes t) p s low now = (refl, go (same (driven_in t) low)) where
  go : (b : Bool) → Fate (if b then record p { phase = Sending t } else broken_at (record p { phase = Sending t }) t.order.frame now).phase
  go true = inl refl
  go false = inr (inl refl)
edge_fate course.Destroyed p s low now = (refl, inr (inl refl))
edge_fate course.Whole p s low now = (refl, inr (inr refl))

stays : (ph : Phase) (s : Sent) → ph ≡ Sending s → Fate ph
stays ph s is = inl (ap (λ x. is_sending x) is)

sends_fate : (back : Bool) (p : Port) (s : Sent) (order : Order) (now : ℕ) → p.phase ≡ Sending s
    → (word_of (send_told_by (if back then Some Backwards else (if is_free p.phase then refusal_of order else Some Busy)) p order now) ≡ None)
    × Fate (send_after_by (if back then Some Backwards else (if is_free p.phase then refusal_of order else Some Busy)) p order now).phase
sends_fate true p s order now is = (refl, stays p.phase s is)
sends_fate false p s order now is =
    subst
    (λ ph. (word_of (send_told_by (if is_free ph then refusal_of order else Some Busy) p order now) ≡ None)
    × Fate (send_after_by (if is_free ph then refusal_of order else Some Busy) p order now).phase)
    (sym is) (refl, stays p.phase s is)

times_fate : (back : Bool) (p : Port) (s : Sent) (now : ℕ) → p.phase ≡ Sending s
    → (word_of (if back then Err Backwards else Ok (also (event_in p.phase p now) (timed_word (until p now).phase (until p now) now))) ≡ None)
    × Fate (if back then p else timed_in (until p now).phase (until p now) now).phase
times_fate true p s now is = (refl, stays p.phase s is)
times_fate false p s now is =
    subst
    (λ ph. ((also (event_in ph p now) (timed_word (until_in ph (record p { called = now }) now).phase (until_in ph (record p { called = now }) now) now)).word
    ≡ None) × Fate (timed_in (until_in ph (record p { called = now }) now).phase (until_in ph (record p { called = now }) now) now).phase)
    (sym is) (course_fate (sent_until s p.is_low now) (record p { called = now }) p s now)

lost_fate : (p : Port) (s : Sent) (low : Bool) (now : ℕ) → p.phase ≡ Sending s
    → ((only (lapsed_word p.phase)).word ≡ None) × Fate (lost p low now).phase
lost_fate p s low now is =
    subst (λ ph. (lapsed_word ph ≡ None) × Fate (lost_in ph p low now).phase) (sym is) (refl, inr (inl refl))

turns_fate : (back here : Bool) (p : Port) (s : Sent) (low : Bool) (now : ℕ) → p.phase ≡ Sending s
    → (word_of (if back then Err Backwards
    else (if here then Ok (only (lapsed_word p.phase)) else Ok (also (event_in p.phase p now) (lapsed_word (until p now).phase)))) ≡ None)
    × Fate (if back then p else (if here then lost p low now else edged (until p now) low now)).phase
turns_fate true here p s low now is = (refl, stays p.phase s is)
turns_fate false true p s low now is = lost_fate p s low now is
turns_fate false false p s low now is =
    subst
    (λ ph. ((also (event_in ph p now) (lapsed_word (until_in ph (record p { called = now }) now).phase)).word ≡ None)
    × Fate (edged (until_in ph (record p { called = now }) now) low now).phase)
    (sym is) (edge_fate (sent_until s p.is_low now) (record p { called = now }) s low now)

loses_fate : (back : Bool) (p : Port) (s : Sent) (low : Bool) (now : ℕ) → p.phase ≡ Sending s
    → (word_of (if back then Err Backwards else Ok (only (lapsed_word p.phase))) ≡ None) × Fate (if back then p else lost p low now).phase
loses_fate true p s low now is = (refl, stays p.phase s is)
loses_fate false p s low now is = lost_fate p s low now is

fate : (p : Port) (c : Call) (s : Sent) → p.phase ≡ Sending s → (word_of (told_by p c) ≡ None) × Fate (after p c).phase
fate p (Sends order now) s is = sends_fate (is_backwards p now) p s order now is
fate p (Times now) s is = times_fate (is_backwards p now) p s now is
fate p (Turns low now) s is = turns_fate (is_backwards p now) (same_level p.is_low low) p s low now is
fate p (Loses low now) s is = loses_fate (is_backwards p now) p s low now is

-- ---------------------------------------------------------------- a break

-- a break goes on and nothing is told, or destroyed is told
abbrev Told : Option Word → Phase → Type 0
Told word ph = ((word ≡ None) × (is_breaking ph ≡ true)) ⊎ (word ≡ Some Destroyed)

on_break : (ph : Phase) (since : ℕ) → ph ≡ Breaking since → is_breaking ph ≡ true
on_break ph since is = ap (λ x. is_breaking x) is

time_told : (ends : Bool) (p : Port) (r : Receiver) (since now : ℕ) → p.phase ≡ Breaking since
    → Told (also (only (if ends then Some Destroyed else None))
    (timed_word (if ends then record p { receiver = r; phase = Free } else p).phase (if ends then record p { receiver = r; phase = Free } else p) now)).word
    (timed_in (if ends then record p { receiver = r; phase = Free } else p).phase (if ends then record p { receiver = r; phase = Free } else p) now).phase
time_told true p r since now is = inr refl
time_told false p r since now is =
    subst (λ ph. Told (also (only None) (timed_word ph p now)).word (timed_in ph p now).phase) (sym is) (inl (refl, on_break p.phase since is))

edge_told : (ends : Bool) (p : Port) (r : Receiver) (since now : ℕ) (low : Bool) → p.phase ≡ Breaking since
    → Told (also (only (if ends then Some Destroyed else None)) (lapsed_word (if ends then record p { receiver = r; phase = Free } else p).phase)).word
    (edged (if ends then record p { receiver = r; phase = Free } else p) low now).phase
edge_told true p r since now low is = inr refl
edge_told false p r since now low is =
    subst (λ ph. Told (also (only None) (lapsed_word ph)).word (edge_in ph p low now).phase) (sym is) (inl (refl, on_break p.phase since is))

sends_told : (back : Bool) (p : Port) (since : ℕ) (order : Order) (now : ℕ) → p.phase ≡ Breaking since
    → Told (word_of (send_told_by (if back then Some Backwards else (if is_free p.phase then refusal_of order else Some Busy)) p order now))
    (send_after_by (if back then Some Backwards else (if is_free p.phase then refusal_of order else Some Busy)) p order now).phase
sends_told true p since order now is = inl (refl, on_break p.phase since is)
sends_told false p since order now is =
    subst
    (λ ph. Told (word_of (send_told_by (if is_free ph then refusal_of order else Some Busy) p order now))
    (send_after_by (if is_free ph then refusal_of order else Some Busy) p order now).phase)
    (sym is) (inl (refl, on_break p.phase since is))

times_told : (back : Bool) (p : Port) (since now : ℕ) → p.phase ≡ Breaking since
    → Told (word_of (if back then Err Backwards else Ok (also (event_in p.phase p now) (timed_word (until p now).phase (until p now) now))))
    (if back then p else timed_in (until p now).phase (until p now) now).phase
times_told true p since now is = inl (refl, on_break p.phase since is)
times_told false p since now is =
    subst
    (λ ph. Told
    (also (event_in ph p now) (timed_word (until_in ph (record p { called = now }) now).phase (until_in ph (record p { called = now }) now) now)).word
    (timed_in (until_in ph (record p { called = now }) now).phase (until_in ph (record p { called = now }) now) now).phase)
    (sym is) (time_told (is_broken_off since now) (record p { called = now }) (spoilt p.is_low) since now is)

lost_told : (p : Port) (since : ℕ) (low : Bool) (now : ℕ) → p.phase ≡ Breaking since → Told (only (lapsed_word p.phase)).word (lost p low now).phase
lost_told p since low now is =
    subst (λ ph. Told (lapsed_word ph) (lost_in ph p low now).phase) (sym is) (inl (refl, on_break p.phase since is))

turns_told : (back here : Bool) (p : Port) (since : ℕ) (low : Bool) (now : ℕ) → p.phase ≡ Breaking since
    → Told (word_of (if back then Err Backwards
    else (if here then Ok (only (lapsed_word p.phase)) else Ok (also (event_in p.phase p now) (lapsed_word (until p now).phase)))))
    (if back then p else (if here then lost p low now else edged (until p now) low now)).phase
turns_told true here p since low now is = inl (refl, on_break p.phase since is)
turns_told false true p since low now is = lost_told p since low now is
turns_told false false p since low now is =
    subst
    (λ ph. Told (also (event_in ph p now) (lapsed_word (until_in ph (record p { called = now }) now).phase)).word
    (edged (until_in ph (record p { called = now }) now) low now).phase)
    (sym is) (edge_told (is_broken_off since now) (record p { called = now }) (spoilt p.is_low) since now low is)

loses_told : (back : Bool) (p : Port) (since : ℕ) (low : Bool) (now : ℕ) → p.phase ≡ Breaking since
    → Told (word_of (if back then Err Backwards else Ok (only (lapsed_word p.phase)))) (if back then p else lost p low now).phase
loses_told true p since low now is = inl (refl, on_break p.phase since is)
loses_told false p since low now is = lost_told p since low now is

told : (p : Port) (c : Call) (since : ℕ) → p.phase ≡ Breaking since → Told (word_of (told_by p c)) (after p c).phase
told p (Sends order now) since is = sends_told (is_backwards p now) p since order now is
told p (Times now) since is = times_told (is_backwards p now) p since now is
told p (Turns low now) since is = turns_told (is_backwards p now) (same_level p.is_low low) p since low now is
told p (Loses low now) since is = loses_told (is_backwards p now) p since low now is

since_of : (ph : Phase) → is_breaking ph ≡ true → (since : ℕ) × (ph ≡ Breaking since)
since_of Free is = absurd (cc)
since_of (Waiting order) is = absurd (cc)
since_of (Sending s) is = absurd (cc)
since_of (Breaking since) is = (since, refl)
since_of (Listening l) is = absurd (cc)

sent_of : (ph : Phase) → is_sending ph ≡ true → (s : Sent) × (ph ≡ Sending s)
sent_of Free is = absurd (cc)
sent_of (Waiting order) is = absurd (cc)
sent_of (Sending s) is = (s, refl)
sent_of (Breaking since) is = absurd (cc)
sent_of (Listening l) is = absurd (cc)

same_word : {v w : Word} → Some v ≡ Some w → v ≡ w
same_word {v} {w} e = cc

broken_word : (p : Port) (calls : List Call) (w : Word) → is_breaking p.phase ≡ true → first_word p calls ≡ Some w → w ≡ Destroyed
broken_word p [] w breaking e = absurd (cc)
broken_word p (c ∷ calls) w breaking e =
    go (told p c (since_of p.phase breaking).0 (since_of p.phase breaking).1) (broken_word (after p c) calls w)
  where
    go : Told (word_of (told_by p c)) (after p c).phase
        → (is_breaking (after p c).phase ≡ true → first_word (after p c) calls ≡ Some w → w ≡ Destroyed) → w ≡ Destroyed
    go (inl on) later = later on.1 (subst (λ o. or_next o (first_word (after p c) calls) ≡ Some w) on.0 e)
    go (inr is) later = same_word (sym (subst (λ o. or_next o (first_word (after p c) calls) ≡ Some w) is e))

-- ---------------------------------------------------------------- the word

abbrev Became : Table → Port → List Call → Word → Type 0
Became t p calls w = IsSentWhole p calls ⊎ (IsBrokenOff t p calls × (w ≡ Destroyed))

pub became : (t : Table) (p : Port) (calls : List Call) (w : Word) (s : Sent) → p.phase ≡ Sending s → IsCalled t p calls
    → first_word p calls ≡ Some w → Became t p calls w
became t p [] w s is called e = absurd (cc)
became t p (c ∷ calls) w s is called e = go (fate p c s is) (λ s is. became t (after p c) calls w s is called.1) where
  next : word_of (told_by p c) ≡ None → first_word (after p c) calls ≡ Some w
  next none = subst (λ o. or_next o (first_word (after p c) calls) ≡ Some w) none e

  on : is_sending (after p c).phase ≡ true → Became t (after p c) calls w → Became t p (c ∷ calls) w
  on sends (inl whole) = inl (c ∷ whole.0, whole.1, ap (λ cs. c ∷ cs) whole.2, inr (sends, whole.3))
  on sends (inr broken) =
      let b : IsBrokenOff t (after p c) calls = broken.0 in
      inr ((c ∷ b.0, b.1, ap (λ cs. c ∷ cs) b.2, inr (sends, b.3)), broken.1)

  go : (word_of (told_by p c) ≡ None) × Fate (after p c).phase
      → ((s : Sent) → (after p c).phase ≡ Sending s → first_word (after p c) calls ≡ Some w → Became t (after p c) calls w) → Became t p (c ∷ calls) w
  go (none, inl sends) later = let s = sent_of (after p c).phase sends in on sends (later s.0 s.1 (next none))
  go (none, inr (inl breaks)) later =
      inr ((c ∷ [], calls, refl, inl (breaks, refl, called.0 (ap (λ x. is_sending x) is))), broken_word (after p c) calls w breaks (next none))
  go (none, inr (inr listens)) later = inl (c ∷ [], calls, refl, inl (listens, refl))

pub whole_word : (p : Port) (order : Order) (calls : List Call) (heard : Answer) → p.phase ≡ Sending (begun_at order p.called) → IsCalled table p calls
    → first_word p calls ≡ Some (Heard heard) → IsSentWhole p calls
whole_word p order calls heard is called e = elim (became table p calls (Heard heard) (begun_at order p.called) is called e) [
  | inl whole ↦ whole
  | inr broken ↦ absurd (let no : Heard heard ≡ Destroyed = broken.1 in cc)
]

pub destroyed_word : (p : Port) (order : Order) (calls : List Call) → p.phase ≡ Sending (begun_at order p.called) → IsCalled table p calls
    → first_word p calls ≡ Some Destroyed → IsSentWhole p calls ⊎ IsBrokenOff table p calls
destroyed_word p order calls is called e = elim (became table p calls Destroyed (begun_at order p.called) is called e) [
  | inl whole ↦ inl whole
  | inr broken ↦ inr broken.0
]
