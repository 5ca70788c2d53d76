use Rattle.dali_progress.proofs.Below.{◌≡◌, ℕ, inl, inr, [], refl, sym, ap, subst, ◌∙◌, arith, Option, Some, None, List, ◌∷◌, ◌++◌, FIRST, LATER, Forward}
use Rattle.dali_progress.proofs.Below.{Silence, SearchAddress, command_of, frame_of, frame, Command, Arc, Terminate, Initialise, Randomise, Compare, SearchHigh}
use Rattle.dali_progress.proofs.Below.{SearchMiddle, SearchLow, Unaddressed, Lawful, Open, Probe, Close, stage_of, End, AllFound, Input, Order, Put, Commit}
use Rattle.dali_progress.proofs.Below.{Done, Enrol, Stage, Unnamed, Inconclusive, Spelled, Terminated, Hunted, Free, InitialisedOnce, Initialised}
use Rattle.dali_progress.proofs.Below.{RandomisedOnce, Opened, HighSent, MiddleSent, NumberSent, Probed, Block, without_records, turn_of, first_of, Machine}
use Rattle.dali_progress.proofs.Below.{machine_told, at_first, next_course, course_by, most_silent, BeginsWith, IsAllowed, IsAddressing, IsBegun, IsCaused}
use Rattle.dali_progress.proofs.{Below.{IsOrdered, IsFollowed, IsGiven, machine_after, running_close, Purpose, Way, Fresh, Surveying, Event}, Later.IsUnasked}
use Rattle.{dali_progress.proofs.Later.{course_stays, some_same}, dali_script.specs.declared.stage.Stage.TheVariants.Withdrawn}
use Rattle.dali_script.specs.declared.orders.Input.TheVariants as input
use Rattle.dali_events.specs.declared.event.Event.TheVariants as event

-- ORDERS OF A MACHINE, by what a short history has at hand: the other way round from what is read
-- from an order that was given.

-- no record is due, no gear was found
abbrev pub IsPlain : Stage → Type 0
IsPlain (Unnamed r) = ⊥
IsPlain (Withdrawn r b) = ⊥
IsPlain (Spelled b n) = ⊥
IsPlain (Inconclusive r other) = ⊥
IsPlain (Hunted r (Some h) left) = ⊥
IsPlain _ = Unit {0}

abbrev pub IsNoCommit : Option Order → Type 0
IsNoCommit (Some (Commit x)) = ⊥
IsNoCommit _ = Unit {0}

-- a machine that was told an input, at such a stage; it lost no transaction, and no search of it was silent
abbrev pub IsAt : Machine → Stage → Type 0
IsAt t s = (stage_of t.trace ≡ s) × IsPlain s × (t.tries ≡ 0) × (t.silent ≡ 0) × IsNoCommit t.last

plain_unasked : (s : Stage) (p : Purpose) → IsPlain s → IsUnasked s p
plain_unasked (Hunted r (Some h) left) p plain = absurd plain
plain_unasked _ p plain = tt

never_most : (y : Way) → 0 ≡ most_silent y → ⊥
never_most Fresh e = omega (arith, e)
never_most Surveying e = omega (arith, e)

not_plain : (s r : Stage) → IsPlain s → s ≡ r → (IsPlain r → ⊥) → ⊥
not_plain s r plain same bad = bad (subst IsPlain same plain)

no_enrolment : (last : Option Order) (b n : ℕ) → IsNoCommit last → last ≡ Some (Commit (Enrol b n)) → ⊥
no_enrolment last b n none is = subst IsNoCommit is none

ordered : (t : Machine) (s : Stage) (o : Order) → IsAt t s → IsAllowed t o → IsAddressing o → IsCaused t (course_by t o) o → IsOrdered t o
ordered t s o at allowed addressing caused = record {
  allowed = allowed;
  addressing = addressing;
  caused = caused;
  given_up = λ e. let tries = at.2 in absurd (omega (arith, e, tries));
  silent = λ e. absurd (never_most t.course.way (sym at.3 ∙ e));
  unnamed = λ r e. absurd (not_plain s (Unnamed r) at.1 (sym at.0 ∙ e) (λ x. x));
  found = λ r b e. absurd (not_plain s (Withdrawn r b) at.1 (sym at.0 ∙ e) (λ x. x));
}

followed : (t : Machine) (s : Stage) (o : Order) → IsAt t s → ((c : Command) → turn_of t.course.purpose t.course.number s ≡ Some c → o ≡ Put LATER (frame_of c))
    → IsFollowed t o
followed t s o at turns = record {
  sent = λ c e. turns c (subst (λ r. turn_of t.course.purpose t.course.number r ≡ Some c) at.0 e);
  told = λ b n e same. absurd (not_plain s (Spelled b (Some n)) at.1 (sym at.0 ∙ e) (λ x. x));
  another = λ b n e other. absurd (not_plain s (Spelled b (Some n)) at.1 (sym at.0 ∙ e) (λ x. x));
  unconfirmed = λ r x e. absurd (not_plain s (Inconclusive r x) at.1 (sym at.0 ∙ e) (λ y. y));
  enrolled = λ b n e. absurd (no_enrolment t.last b n at.4 e);
  hunted = λ r h left e hunts. absurd (not_plain s (Hunted r (Some h) left) at.1 (sym at.0 ∙ e) (λ x. x));
  called = λ r h left e calls turn. absurd (not_plain s (Hunted r (Some h) left) at.1 (sym at.0 ∙ e) (λ x. x));
}

-- all inputs but one are answered so
given : (m : Machine) (i : Input) (o : Order) → (i ≡ input.CommitFailed → ⊥) → IsOrdered (machine_told m i) o → BeginsWith (machine_after m i o).course o
    → IsFollowed (machine_told m i) o → IsGiven m i o
given m input.CommitFailed o other answers begins follows = absurd (other refl)
given m _ o other answers begins follows = record { answered = answers; begins = begins; followed = follows }

none_some : {A : Type 0} (x : A) → None ≡ Some x → ⊥
none_some x same = cc

-- THE NEXT FRAME of the transaction that runs
pub later_given : (m : Machine) (i : Input) (s : Stage) (x : Command) → (i ≡ input.CommitFailed → ⊥) → IsAt (machine_told m i) s
    → running_close (machine_told m i) ≡ None → turn_of (machine_told m i).course.purpose (machine_told m i).course.number s ≡ Some x
    → ((machine_told m i).trace ≡ [] → ⊥) → Lawful (machine_told m i).kept.block (machine_told m i).kept.reserved (machine_told m i).trace (frame_of x)
    → ((g : Forward) → command_of (frame_of x) ≡ Arc g → ⊥) → IsGiven m i (Put LATER (frame_of x))
later_given m i s x other at unclosed turn some lawful addressing =
    given m i (Put LATER (frame_of x)) other (ordered (machine_told m i) s (Put LATER (frame_of x)) at (inr (refl, some, lawful)) addressing
    (subst (λ d. IsCaused (machine_told m i) d (Put LATER (frame_of x)))
    (sym (course_stays (machine_told m i) s at.0 (plain_unasked s (machine_told m i).course.purpose at.1)))
    (subst (λ e. IsBegun (machine_told m i) e) (sym unclosed) unclosed, inl unclosed))) (λ e. absurd (omega (arith, e)))
    (followed (machine_told m i) s (Put LATER (frame_of x)) at (λ c e. ap (λ y. Put LATER (frame_of y)) (some_same x c (sym turn ∙ e))))

-- THE FIRST FRAME of the transaction that begins
pub first_given : (m : Machine) (i : Input) (s : Stage) (x : Command) → (i ≡ input.CommitFailed → ⊥) → IsAt (machine_told m i) s
    → turn_of (machine_told m i).course.purpose (machine_told m i).course.number s ≡ None
    → x ≡ first_of (next_course (machine_told m i)).purpose (next_course (machine_told m i)).number
    → IsCaused (machine_told m i) (next_course (machine_told m i)) (Put FIRST (frame_of x))
    → Lawful (machine_told m i).kept.block (machine_told m i).kept.reserved [] (frame_of x) → ((g : Forward) → command_of (frame_of x) ≡ Arc g → ⊥)
    → IsGiven m i (Put FIRST (frame_of x))
first_given m i s x other at turn first caused lawful addressing =
    given m i (Put FIRST (frame_of x)) other (ordered (machine_told m i) s (Put FIRST (frame_of x)) at (inl (refl, lawful)) addressing caused)
    (λ e. ap frame_of first) (followed (machine_told m i) s (Put FIRST (frame_of x)) at (λ c e. absurd (none_some c (sym turn ∙ e))))

-- THE END of a close
pub done_given : (m : Machine) (i : Input) (e : End) → (i ≡ input.CommitFailed → ⊥) → IsAt (machine_told m i) Terminated
    → running_close (machine_told m i) ≡ Some e → turn_of (machine_told m i).course.purpose (machine_told m i).course.number Terminated ≡ None
    → IsGiven m i (Done e)
done_given m i e other at closes turn =
    given m i (Done e) other (ordered (machine_told m i) Terminated (Done e) at tt tt (inr (closes, at.0)))
    tt (followed (machine_told m i) Terminated (Done e) at (λ c e. absurd (none_some c (sym turn ∙ e))))

-- A SHORT SESSION: a controller that hears nothing. It opens, asks whether any gear is at or below
-- FFFFFE, closes, and ends: all gear are found.

abbrev pub block : Block
block = record { first = 0; last = 3 }

abbrev pub highest : SearchAddress
highest = record { high = 0xFF; middle = 0xFF; low = 0xFE }

abbrev pub later : ℕ → ℕ → Order
later address byte = Put 1 (frame address byte)

abbrev pub silent : Input
silent = input.Heard Silence

-- THE EVENTS: an opening, up to the order to send RANDOMISE again, and whole
abbrev pub up_to_draw : List Event
up_to_draw =
    event.Acted 0 input.Start (Put 3 (frame 0xA1 0)) ∷
    event.Sent 0 (frame 0xA1 0) Silence ∷
    event.Acted 0 silent (later 0xA5 0xFF) ∷
    event.Sent 0 (frame 0xA5 0xFF) Silence ∷
    event.Acted 0 silent (later 0xA5 0xFF) ∷
    event.Sent 0 (frame 0xA5 0xFF) Silence ∷
    event.Acted 0 silent (later 0xA7 0) ∷
    event.Sent 0 (frame 0xA7 0) Silence ∷
    event.Acted 0 silent (later 0xA7 0) ∷
    []

abbrev pub opening : List Event
opening = up_to_draw ++ (event.Sent 0 (frame 0xA7 0) Silence ∷ [])

-- the search, up to the order to send COMPARE under FFFFFE; the COMPARE; and the close with the end
abbrev pub searching : List Event
searching =
    event.Acted 0 silent (Put 3 (frame 0xB1 0xFF)) ∷
    event.Sent 0 (frame 0xB1 0xFF) Silence ∷
    event.Acted 0 silent (later 0xB3 0xFF) ∷
    event.Sent 0 (frame 0xB3 0xFF) Silence ∷
    event.Acted 0 silent (later 0xB5 0xFE) ∷
    event.Sent 0 (frame 0xB5 0xFE) Silence ∷
    event.Acted 0 silent (later 0xA9 0) ∷
    []

abbrev pub compare : Event
compare = event.Sent 0 (frame 0xA9 0) Silence

abbrev pub ending : List Event
ending =
    event.Acted 0 silent (Put 3 (frame 0xA1 0)) ∷
    event.Sent 0 (frame 0xA1 0) Silence ∷
    event.Acted 0 silent (Done AllFound) ∷
    []

-- the machine after each of its orders
abbrev pub begun : Machine
begun = at_first 0 (without_records block)

abbrev pub terminating : Machine
terminating = machine_after begun input.Start (Put 3 (frame 0xA1 0))

abbrev pub initialising : Machine
initialising = machine_after terminating silent (later 0xA5 0xFF)

abbrev pub initialising_again : Machine
initialising_again = machine_after initialising silent (later 0xA5 0xFF)

abbrev pub randomising : Machine
randomising = machine_after initialising_again silent (later 0xA7 0)

abbrev pub randomising_again : Machine
randomising_again = machine_after randomising silent (later 0xA7 0)

abbrev pub searching_high : Machine
searching_high = machine_after randomising_again silent (Put 3 (frame 0xB1 0xFF))

abbrev pub searching_middle : Machine
searching_middle = machine_after searching_high silent (later 0xB3 0xFF)

abbrev pub searching_low : Machine
searching_low = machine_after searching_middle silent (later 0xB5 0xFE)

abbrev pub comparing : Machine
comparing = machine_after searching_low silent (later 0xA9 0)

abbrev pub closing : Machine
closing = machine_after comparing silent (Put 3 (frame 0xA1 0))

-- each order is one that the machine may give
heard : silent ≡ input.CommitFailed → ⊥
heard e = cc

pub given_first : IsGiven begun input.Start (Put 3 (frame 0xA1 0))
unfolding command_of stage_of
given_first = first_given begun input.Start Free Terminate (λ e. cc) (refl, tt, refl, refl, tt) refl refl (refl, inl refl) (Open, tt, refl) (λ g e. cc)

pub given_initialise : IsGiven terminating silent (later 0xA5 0xFF)
unfolding command_of stage_of
given_initialise =
    later_given terminating silent Terminated (Initialise Unaddressed) heard (refl, tt, refl, refl, tt)
    refl refl (λ e. cc) (Open, tt, (refl, tt, refl)) (λ g e. cc)

pub given_initialise_again : IsGiven initialising silent (later 0xA5 0xFF)
unfolding command_of stage_of
given_initialise_again =
    later_given initialising silent InitialisedOnce (Initialise Unaddressed) heard
    (refl, tt, refl, refl, tt) refl refl (λ e. cc) (Open, tt, (refl, tt, (refl, tt, refl))) (λ g e. cc)

pub given_randomise : IsGiven initialising_again silent (later 0xA7 0)
unfolding command_of stage_of
given_randomise =
    later_given initialising_again silent Initialised Randomise heard (refl, tt, refl, refl, tt) refl refl
    (λ e. cc) (Open, tt, (refl, tt, (refl, tt, (refl, tt, refl)))) (λ g e. cc)

pub given_randomise_again : IsGiven randomising silent (later 0xA7 0)
unfolding command_of stage_of
given_randomise_again =
    later_given randomising silent RandomisedOnce Randomise heard (refl, tt, refl, refl, tt) refl refl
    (λ e. cc) (Open, tt, (refl, tt, (refl, tt, (refl, tt, (refl, tt, refl))))) (λ g e. cc)

pub given_high : IsGiven randomising_again silent (Put 3 (frame 0xB1 0xFF))
unfolding command_of stage_of
given_high = first_given randomising_again silent Opened (SearchHigh 0xFF) heard (refl, tt, refl, refl, tt)
    refl refl (refl, inl refl) (Probe highest, tt, refl) (λ g e. cc)

pub given_middle : IsGiven searching_high silent (later 0xB3 0xFF)
unfolding command_of stage_of
given_middle =
    later_given searching_high silent (HighSent 0xFF) (SearchMiddle 0xFF) heard (refl, tt, refl, refl, tt)
    refl refl (λ e. cc) (Probe highest, tt, (refl, tt, refl)) (λ g e. cc)

pub given_low : IsGiven searching_middle silent (later 0xB5 0xFE)
unfolding command_of stage_of
given_low =
    later_given searching_middle silent (MiddleSent 0xFF 0xFF) (SearchLow 0xFE) heard
    (refl, tt, refl, refl, tt) refl refl (λ e. cc) (Probe highest, tt, (refl, tt, (refl, tt, refl))) (λ g e. cc)

pub given_compare : IsGiven searching_low silent (later 0xA9 0)
unfolding command_of stage_of
given_compare =
    later_given searching_low silent (NumberSent highest) Compare heard (refl, tt, refl, refl, tt) refl refl
    (λ e. cc) (Probe highest, tt, (refl, tt, (refl, tt, (refl, tt, refl)))) (λ g e. cc)

pub given_close : IsGiven comparing silent (Put 3 (frame 0xA1 0))
unfolding command_of stage_of
given_close =
    first_given comparing silent (Probed highest Silence) Terminate heard (refl, tt, refl, refl, tt)
    refl refl (inr (refl, (refl, record { number = highest; stage = refl; last = refl })), inr (refl, refl)) (Close, tt, refl) (λ g e. cc)

pub given_done : IsGiven closing silent (Done AllFound)
unfolding command_of stage_of
given_done = done_given closing silent AllFound heard (refl, tt, refl, refl, tt) refl refl
