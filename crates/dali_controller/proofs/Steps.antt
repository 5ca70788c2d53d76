use Rattle.std.proofs.Common.{lit<, ◌≡◌, ◌⊎◌, inl, inr, ℕ, ◌+◌, ◌<◌, ◌≤◌, Bool, true, false, List, [], ◌∷◌, ◌++◌, refl, sym, ap, ap₂, subst, ◌∙◌, arith, Option}
use Rattle.std.{proofs.{Common.{Some, None, ◌-◌, ◌==◌, ◌||◌, is_some, if◌then◌else◌}, lemmas.Bool.Decides.nat_tests}, specs.Prelude.unwrap_or}
use Rattle.dali_frame.specs.{Priority.{FIRST, LATER}, Random.value_of, Short.short_of, declared.frames.Answer.{Answer, TheVariants.{Silence, Byte}}}
use Rattle.dali_frame.specs.declared.{frames.Forward.Forward, numbers.SearchAddress.SearchAddress}
use Rattle.dali_special.specs.{Command.{MASK, command_of, frame_of, IsSpelled}, declared.command.Command.{Command, TheVariants.{Terminate, Initialise}}}
use Rattle.dali_special.specs.declared.command.Command.TheVariants.{Randomise, Compare, Withdraw, SearchHigh, SearchMiddle, SearchLow, Program, QueryShort}
use Rattle.dali_special.specs.declared.command.{Command.TheVariants.{RandomByte, Arc}, Part.TheVariants.{Middle, Low}, Target.TheVariants.Unaddressed}
use Rattle.dali_special.proofs.Table.{read_written}
use Rattle.dali_script.specs.{Due.{due_after, frame_put}, Findings.{later, finding_of}, Records.{IsKept, Kept, Has, Fits, MayAdd}, Scripts.{MayGive, Lawful}}
use Rattle.dali_script.specs.{Scripts.{is_asking, ASKING}, Stages.{hunted, byte_heard, bytes_heard, finding_at, stage_of, next_stage, queried, named, verified}}
use Rattle.dali_script.specs.{Stages.{answered, doubted, Follows, leads, given}, declared.{finding.Finding.Finding, orders.End.{End, TheVariants.GaveUp}}}
use Rattle.dali_script.specs.declared.{orders.Order.{Order, TheVariants.{Put, Commit, Done}}, records.Record.Record, stage.Stage.{Stage, TheVariants.Free}}
use Rattle.dali_script.specs.declared.stage.Stage.TheVariants.{Terminated, InitialisedOnce, Initialised, RandomisedOnce, HighSent, MiddleSent, NumberSent}
use Rattle.dali_script.specs.declared.stage.Stage.TheVariants.{Found, Unnamed, Unanswered, Inconclusive, Programmed, Confirmed, Withdrawn, HighAsked}
use Rattle.dali_script.specs.declared.stage.Stage.TheVariants.{MiddleAsked, Spelled, LowSent, Hunted, Over, WokenHigh, WokenLow, WokenMiddle, DrawFree}
use Rattle.dali_script.{specs.declared.trace.Entry.Entry, proofs.{Found.finding_after, Lists.has_map, Transactions.{self, equal, middle_next, low_next, turn}}}
use Rattle.dali_script.proofs.Transactions.{gives, lawful_follows, stage_none, stage_more}
use Rattle.dali_search.specs.{Ascending.Ascent, Least.Search}
use Rattle.dali_controller.specs.Course.{Course, first_of, turn_of, closing_of, address_for, least_open, byte_to_send, bytes_to_send, call_turn}
use Rattle.dali_controller.specs.Machine.{machine_lost, machine_heard_to, Machine, silent_after, tries_after, is_complete, is_ended, is_passed_by}
use Rattle.dali_controller.specs.{Moments.{FoundAt, Arrived, CalmAt, IsHeard, Begins, Begun, IsNext, IsMoment, IsUngiven, IsNextTo}, Next.{at_rest, begins_at}}
use Rattle.dali_controller.specs.{Next.{course_by, beginning, next_course, most_silent}, Orders.{IsBegun, AfterMaskBy, AfterMaskOn, IsOrderedTo, is_left_by}}
use Rattle.dali_controller.specs.{Orders.{machine_ordered, machine_ordered_on, running_close, asked_by}, Whole.{IsWhole, Sends, AsksOn, Knows, IsWithinSilence}}
use Rattle.dali_controller.specs.{Whole.{IsReady, IsSending, IsStoredIn, Pending}, declared.purpose.Purpose.{Purpose, TheVariants.{Opening, Probing, Visiting}}}
use Rattle.dali_controller.specs.declared.{purpose.Purpose.TheVariants.{Resolving, Closing, Asking, Hunting, Calling, Drawing, PassingOver}, way.Way.Way}
use Rattle.dali_controller.specs.declared.way.Way.TheVariants.{Fresh, Surveying}
use Rattle.dali_script.specs.declared.orders.Due.TheVariants as due

-- what is known of a machine's course while its transaction is for this
abbrev pub KnowsFor : Machine → Purpose → Type 0
KnowsFor t p = Knows t.course.way t.kept t.course.number t.course.search t.course.ascent t.course.opened p

-- THE COMMANDS OF A TRANSACTION. A command that is sent at a stage may follow there and is read from its frame; it is no
-- direct arc power; past the first one no close runs; and what is known where it leads to.
pub record Goes (k : Kept) (n : SearchAddress) (p : Purpose) (s : Stage) (c : Command) : Type 0 where
  pub follows : Follows k.block k.reserved s c
  pub spelled : IsSpelled c
  pub addressing : (g : Forward) → c ≡ Arc g → ⊥
  pub unclosed : (s ≡ Free → ⊥) → closing_of p ≡ None
  pub arrives : (h : Answer) → Arrived k n p (next_stage s c h)

going : {k : Kept} {n : SearchAddress} {p : Purpose} {s : Stage} {c : Command} → Follows k.block k.reserved s c → IsSpelled c → ((g : Forward) → c ≡ Arc g → ⊥)
    → ((s ≡ Free → ⊥) → closing_of p ≡ None) → ((h : Answer) → Arrived k n p (next_stage s c h)) → Goes k n p s c
going {k} {n} {p} {s} {c} follows spelled addressing unclosed arrives =
    record { follows = follows; spelled = spelled; addressing = addressing; unclosed = unclosed; arrives = arrives }

some_is : (x c : Command) → Some x ≡ Some c → c ≡ x
some_is x c e = cc

-- by its turn, of a transaction that is no close
plain : {k : Kept} {n : SearchAddress} {p : Purpose} {s : Stage} {c d : Command} → Some d ≡ Some c → is_some (leads s d Silence) ≡ true → given s d ≡ None
    → ((g : Forward) → d ≡ Arc g → ⊥) → closing_of p ≡ None → IsSpelled d → ((h : Answer) → Arrived k n p (next_stage s d h)) → Goes k n p s c
plain {k} {n} {p} {s} {c} {d} is on none addressing unclosed spelled arrives =
    rw (some_is d c is) (going (turn on none) spelled addressing (λ later. unclosed) arrives)

-- the queries of a random address, of both kinds of transaction that ask it
abbrev IsAsked : Purpose → ℕ → Type 0
IsAsked p b = (p ≡ Resolving b) ⊎ (p ≡ Asking b)

turns_asked : (p : Purpose) (n : SearchAddress) (b high : ℕ) (bytes : ℕ × ℕ) → IsAsked p b
    → (turn_of p n (HighAsked b (Some high)) ≡ Some (RandomByte b Middle)) × (turn_of p n (MiddleAsked b (Some bytes)) ≡ Some (RandomByte b Low))
turns_asked p n b high bytes (inl is) = rw is (refl, refl)
turns_asked p n b high bytes (inr is) = rw is (refl, refl)

unheard : {p : Purpose} {b : ℕ} → IsAsked p b → b < 64 → ((p ≡ Resolving b) × (b < 64)) ⊎ (p ≡ Asking b)
unheard (inl is) small = inl (is, small)
unheard (inr is) small = inr is

arrives_high : (k : Kept) (n : SearchAddress) (p : Purpose) (b : ℕ) (high : Option ℕ) → IsAsked p b → b < 64 → Arrived k n p (HighAsked b high)
arrives_high k n p b None is small = unheard is small
arrives_high k n p b (Some high) is small = (RandomByte b Middle, ((turns_asked p n b high (0, 0) is).0, (is, small), tt))

arrives_middle : (k : Kept) (n : SearchAddress) (p : Purpose) (b : ℕ) (bytes : Option (ℕ × ℕ)) → IsAsked p b → b < 64 → Arrived k n p (MiddleAsked b bytes)
arrives_middle k n p b None is small = unheard is small
arrives_middle k n p b (Some bytes) is small = (RandomByte b Low, ((turns_asked p n b 0 bytes is).1, (is, small), tt))

goes_first : (k : Kept) (n : SearchAddress) (p : Purpose) → IsSpelled (first_of p n) → Goes k n p Free (first_of p n)
goes_first k n Opening small = going (turn refl refl) tt (λ g x. cc) (λ later. refl) (λ h. inl (Initialise Unaddressed, (refl, tt, tt)))
goes_first k n (Resolving a) small =
    going (turn refl refl) small (λ g x. cc) (λ later. refl) (λ h. arrives_high k n (Resolving a) a (byte_heard h) (inl refl) small)
goes_first k n (Asking a) small = going (turn refl refl) small (λ g x. cc) (λ later. refl) (λ h. arrives_high k n (Asking a) a (byte_heard h) (inr refl) small)
goes_first k n Calling small = going (turn refl refl) tt (λ g x. cc) (λ later. refl) (λ h. inl (Initialise Unaddressed, (refl, tt, tt)))
goes_first k n Drawing small = going (turn refl refl) tt (λ g x. cc) (λ later. refl) (λ h. inl (Initialise Unaddressed, (refl, tt, tt)))
goes_first k n (Closing e) small = going (turn refl refl) tt (λ g x. cc) (λ later. absurd (later refl)) (λ h. inr (e, refl))
goes_first k n Hunting small = going (turn refl refl) tt (λ g x. cc) (λ later. refl) (λ h. (SearchLow n.low, (refl, refl, tt)))
goes_first k n _ small = going (turn refl refl) tt (λ g x. cc) (λ later. refl) (λ h. (SearchMiddle n.middle, (refl, refl, tt)))

arrives_queried : (k : Kept) (n r : SearchAddress) (h : Answer) → r ≡ n → Arrived k n Visiting (queried r h)
arrives_queried k n r (Byte v) is = go (short_of v) (v == MASK) where
  go : (o : Option ℕ) (m : Bool) → Arrived k n Visiting (named r o m)
  go (Some b) m = (Withdraw, (refl, sym is, tt))
  go None true = (refl, is)
  go None false = (refl, is)
arrives_queried k n r _ is = (refl, is)

arrives_verified : (k : Kept) (n r : SearchAddress) (a : ℕ) (h : Answer) → r ≡ n → MayGive k.block k.reserved r a → Arrived k n Visiting (verified r a h)
arrives_verified k n r a (Byte v) is may = go (short_of v) where
  go : (o : Option ℕ) → Arrived k n Visiting (answered r a o)
  go None = (refl, is)
  go (Some b) = same (b == a) where
    same : (m : Bool) → Arrived k n Visiting (if m then Confirmed r a else Inconclusive r (Some b))
    same true = (Withdraw, (refl, sym is, may))
    same false = (refl, is)
arrives_verified k n r a _ is may = (refl, is)

whole : (n : SearchAddress) (high middle : ℕ) → n.high ≡ high → n.middle ≡ middle → n ≡ record { high = high; middle = middle; low = n.low }
whole n high middle one two = rw (← one, ← two) refl

-- in a hunt a search byte or COMPARE follows, until all bytes are those of the number
hunts_none : (k : Kept) (n r : SearchAddress) (left : ℕ) → bytes_to_send n r < left → Arrived k n Hunting (Hunted r None left)
hunts_none k n r left room = (byte_to_send n r, (refl, room))

bytes_few : (n : SearchAddress) (high low : ℕ) → n.high ≡ high → n.low ≡ low → bytes_to_send n (record { high = high; middle = n.middle; low = low }) < ASKING
bytes_few n high low one two = rw (← one, ← two, self n.high, self n.low, self n.middle) (lit< tt)

leads_asking : (r : SearchAddress) (left : ℕ) (c : Command) → is_asking c ≡ true → is_some (hunted r left c Silence) ≡ true
leads_asking r left (SearchHigh high) ask = refl
leads_asking r left (SearchMiddle middle) ask = refl
leads_asking r left (SearchLow low) ask = refl
leads_asking r left Compare ask = refl
leads_asking r left _ ask = absurd (cc)

pub goes_hunted : (k : Kept) (n r : SearchAddress) (last : Option Answer) (left : ℕ) → bytes_to_send n r < left
    → Goes k n Hunting (Hunted r last left) (byte_to_send n r)
goes_hunted k n r last left room = go (r.high == n.high) refl (r.low == n.low) refl (r.middle == n.middle) refl where
  some : (left == 0) ≡ false
  some = grind (arith, nat_tests, room)

  asks : (d : Command) → is_asking d ≡ true → ((h : Answer) → Arrived k n Hunting (unwrap_or (hunted r (left - 1) d h) Over)) → IsSpelled d
      → ((g : Forward) → d ≡ Arc g → ⊥) → Goes k n Hunting (Hunted r last left) d
  asks d ask arrives spelled addressing =
      going (turn (rw some (leads_asking r (left - 1) d ask)) refl) spelled addressing (λ later. refl) (λ h. rw some (arrives h))

  -- if a byte is sent, the others stay as they are
  byte : (m : SearchAddress) → bytes_to_send n m + 1 ≤ bytes_to_send n r → Arrived k n Hunting (Hunted m None (left - 1))
  byte m fewer = hunts_none k n m (left - 1) (omega (arith, fewer, room))

  go : (b : Bool) → (r.high == n.high) ≡ b → (d : Bool) → (r.low == n.low) ≡ d → (e : Bool) → (r.middle == n.middle) ≡ e
      → Goes k n Hunting (Hunted r last left) (if b then (if d then (if e then Compare else SearchMiddle n.middle) else SearchLow n.low) else SearchHigh n.high)
  go false one d two e three = asks (SearchHigh n.high) refl (λ h. byte (record r { high = n.high }) (rw (one, self n.high) (omega arith))) tt (λ g x. cc)
  go true one false two e three = asks (SearchLow n.low) refl (λ h. byte (record r { low = n.low }) (rw (two, self n.low) (omega arith))) tt (λ g x. cc)
  go true one true two false three =
      asks (SearchMiddle n.middle) refl (λ h. byte (record r { middle = n.middle }) (rw (three, self n.middle) (omega arith))) tt (λ g x. cc)
  go true one true two true three =
      asks Compare refl (λ h. (inl refl, same)) tt (λ g x. cc) where
        same : r ≡ n
        same = let high : r.high ≡ n.high = equal r.high n.high one in let low : r.low ≡ n.low = equal r.low n.low two in
            let middle : r.middle ≡ n.middle = equal r.middle n.middle three in
            ap (λ x. record { high = x; middle = r.middle; low = r.low }) high ∙ ap (λ x. record { high = n.high; middle = x; low = r.low }) middle
            ∙ ap (λ x. record { high = n.high; middle = n.middle; low = x }) low

-- in a roll call COMPARE
call_is : (last : Option Answer) (left : ℕ) (c : Command) → call_turn last left ≡ Some c → c ≡ Compare
call_is None left c e = some_is Compare c e
call_is (Some Silence) left c e = go (left == 1) e where
  go : (b : Bool) → (if b then Some Compare else None) ≡ Some c → c ≡ Compare
  go true e = some_is Compare c e
  go false e = absurd (cc)
call_is _ left c e = absurd (cc)

goes_called : (k : Kept) (n r : SearchAddress) (last : Option Answer) (left : ℕ) → r ≡ n → 0 < left → Goes k n Calling (Hunted r last left) Compare
goes_called k n r last left same more =
    let some : (left == 0) ≡ false = grind (arith, nat_tests, more) in
    going (turn (rw some refl) refl) tt (λ g x. cc) (λ later. refl) (λ h. rw some (inr refl, same))

goes_asked : (k : Kept) (n : SearchAddress) (p : Purpose) (r : SearchAddress) (last : Option Answer) (left : ℕ) (c : Command) → AsksOn p n r last left c
    → Goes k n p (Hunted r last left) c
goes_asked k n Hunting r last left c e = rw e.0 (goes_hunted k n r last left e.1)
goes_asked k n Calling r last left c e = rw (call_is last left c e.0) (goes_called k n r last left e.1 e.2)
goes_asked k n _ r last left c e = elim e [ ]

whole_called : (n : SearchAddress) (high low : ℕ) → n.high ≡ high → n.low ≡ low → record { high = high; middle = n.middle; low = low } ≡ n
whole_called n high low one two = rw (← one, ← two) refl

arrives_doubted : (k : Kept) (n : SearchAddress) (h : Answer) → Arrived k n Drawing (doubted h)
arrives_doubted k n Silence = (Randomise, (refl, tt, tt))
arrives_doubted k n _ = refl

goes : (k : Kept) (n : SearchAddress) (p : Purpose) (s : Stage) (c : Command) → Sends k n p s c → Goes k n p s c
goes k n Opening Terminated c e = plain e.0 refl refl (λ g x. cc) refl tt (λ h. (Initialise Unaddressed, (refl, tt, tt)))
goes k n Opening InitialisedOnce c e = plain e.0 refl refl (λ g x. cc) refl tt (λ h. (Randomise, (refl, tt, tt)))
goes k n Opening Initialised c e = plain e.0 refl refl (λ g x. cc) refl tt (λ h. (Randomise, (refl, tt, tt)))
goes k n Opening RandomisedOnce c e = plain e.0 refl refl (λ g x. cc) refl tt (λ h. inl refl)
goes k n Calling Terminated c e = plain e.0 refl refl (λ g x. cc) refl tt (λ h. (Initialise Unaddressed, (refl, tt, tt)))
goes k n Calling InitialisedOnce c e = plain e.0 refl refl (λ g x. cc) refl tt (λ h. (SearchHigh n.high, (refl, tt, tt)))
goes k n Calling Initialised c e = plain e.0 refl refl (λ g x. cc) refl tt (λ h. (SearchLow n.low, (refl, refl, tt)))
goes k n Calling (WokenHigh high) c e = plain e.0 refl refl (λ g x. cc) refl tt (λ h. (SearchMiddle n.middle, (refl, (e.1, refl), tt)))
goes k n Calling (WokenLow high low) c e = plain e.0 refl refl (λ g x. cc) refl tt (λ h. (Compare, (refl, whole_called n high low e.1.0 e.1.1, lit< tt)))
goes k n Drawing Terminated c e = plain e.0 refl refl (λ g x. cc) refl tt (λ h. (Initialise Unaddressed, (refl, tt, tt)))
goes k n Drawing InitialisedOnce c e = plain e.0 refl refl (λ g x. cc) refl tt (λ h. (SearchHigh n.high, (refl, tt, tt)))
goes k n Drawing Initialised c e = plain e.0 refl refl (λ g x. cc) refl tt (λ h. (SearchMiddle n.middle, (refl, refl, tt)))
goes k n Drawing (WokenHigh high) c e = plain e.0 refl refl (λ g x. cc) refl tt (λ h. (Compare, (refl, (e.1, refl), tt)))
goes k n Drawing (WokenMiddle high middle) c e = plain e.0 refl refl (λ g x. cc) refl tt (λ h. arrives_doubted k n h)
goes k n Drawing DrawFree c e = plain e.0 refl refl (λ g x. cc) refl tt (λ h. (Randomise, (refl, tt, tt)))
goes k n Drawing RandomisedOnce c e = plain e.0 refl refl (λ g x. cc) refl tt (λ h. inr refl)
goes k n PassingOver (HighSent high) c e = plain e.0 refl refl (λ g x. cc) refl tt (λ h. (SearchLow n.low, (refl, (e.1, refl), tt)))
goes k n PassingOver (MiddleSent high middle) c e = plain e.0 refl refl (λ g x. cc) refl tt (λ h. (Withdraw, (refl, whole n high middle e.1.0 e.1.1, tt)))
goes k n PassingOver (NumberSent r) c e = plain e.0 refl refl (λ g x. cc) refl tt (λ h. refl)
goes k n Probing (HighSent high) c e = plain e.0 refl refl (λ g x. cc) refl tt (λ h. (SearchLow n.low, (refl, (e.1, refl), tt)))
goes k n Visiting (HighSent high) c e = plain e.0 refl refl (λ g x. cc) refl tt (λ h. (SearchLow n.low, (refl, (e.1, refl), tt)))
goes k n Probing (MiddleSent high middle) c e = plain e.0 refl refl (λ g x. cc) refl tt (λ h. (Compare, (refl, whole n high middle e.1.0 e.1.1, tt)))
goes k n Visiting (MiddleSent high middle) c e = plain e.0 refl refl (λ g x. cc) refl tt (λ h. (QueryShort, (refl, whole n high middle e.1.0 e.1.1, tt)))
goes k n Hunting (HighSent high) c e = plain e.0 refl refl (λ g x. cc) refl tt (λ h. (SearchMiddle n.middle, (refl, (e.1, refl), tt)))
goes k n Hunting (LowSent high low) c e =
    plain e.0 refl refl (λ g x. cc) refl tt
    (λ h. hunts_none k n (record { high = high; middle = n.middle; low = low }) ASKING (bytes_few n high low e.1.0 e.1.1))
goes k n p (Hunted r last left) c e = goes_asked k n p r last left c e
goes k n Probing (NumberSent r) c e = plain e.0 refl refl (λ g x. cc) refl tt (λ h. (refl, sym e.1))
goes k n Visiting (NumberSent r) c e = plain e.0 refl refl (λ g x. cc) refl tt (λ h. arrives_queried k n r h (sym e.1))
goes k n Visiting (Found r b) c e = plain e.0 refl refl (λ g x. cc) refl tt (λ h. (refl, sym e.1))
goes k n (Resolving a) (HighAsked b high) c e =
    plain e.0 (rw (self b) refl) refl (λ g x. cc) refl e.1.1
    (λ h. rw (middle_next b high h) (arrives_middle k n (Resolving a) b (bytes_heard high h) e.1.0 e.1.1))
goes k n (Resolving a) (MiddleAsked b bytes) c e = plain e.0 (rw (self b) refl) refl (λ g x. cc) refl e.1.1 (λ h. rw (low_next b bytes h) e.1.0)
goes k n (Asking a) (HighAsked b (Some high)) c e =
    plain e.0 (rw (self b) refl) refl (λ g x. cc) refl e.1.1
    (λ h. rw (middle_next b (Some high) h) (arrives_middle k n (Asking a) b (bytes_heard (Some high) h) e.1.0 e.1.1))
goes k n (Asking a) (MiddleAsked b (Some bytes)) c e = plain e.0 (rw (self b) refl) refl (λ g x. cc) refl e.1.1 (λ h. rw (low_next b (Some bytes) h) e.1.0)
goes k n p Free c e = subst (Goes k n p Free) (sym e.0) (goes_first k n p (subst IsSpelled e.0 e.1))
goes k n Visiting (Unnamed r) c e = rw e.2.3 (going (gives refl e.2.2) e.2.1 (λ g x. cc) (λ later. refl) (λ h. (QueryShort, (refl, sym e.1, e.2.2))))
goes k n Visiting (Programmed r a) c e =
    rw (some_is _ c e.0) (going (gives refl e.2) tt (λ g x. cc) (λ later. refl) (λ h. arrives_verified k n r a h (sym e.1) e.2))
goes k n Visiting (Confirmed r a) c e = rw (some_is _ c e.0) (going (gives refl e.2) tt (λ g x. cc) (λ later. refl) (λ h. (refl, sym e.1)))
goes k n _ _ c e = absurd (let none = e.0 in cc)

pub sends_follow : (k : Kept) (n : SearchAddress) (p : Purpose) (s : Stage) (c : Command) → Sends k n p s c → Follows k.block k.reserved s c
sends_follow k n p s c e = (goes k n p s c e).follows

-- no close sends more than its first frame
pub sends_open : (k : Kept) (n : SearchAddress) (p : Purpose) (s : Stage) (c : Command) → Sends k n p s c → (s ≡ Free → ⊥) → closing_of p ≡ None
sends_open k n p s c e later = (goes k n p s c e).unclosed later

not_withdrawn : (k : Kept) (n : SearchAddress) (p : Purpose) (r : SearchAddress) (b : ℕ) (c : Command) → Sends k n p (Withdrawn r b) c → ⊥
not_withdrawn k n p r b c e = let on = (goes k n p (Withdrawn r b) c e).follows.leads_on in cc

pub calm_less : (y : Way) (p : Purpose) (i : ℕ) → closing_of p ≡ None → IsWithinSilence y p i → i < most_silent y
calm_less y (Closing end) i e calm = absurd (cc)
calm_less y _ i e calm = calm

pub calm_at : (k : Kept) (n : SearchAddress) (y : Way) (o : Bool) (p : Purpose) (i : ℕ) (there : Stage) → Arrived k n p there → IsWithinSilence y p i
    → CalmAt there y p o (silent_after there o i)
calm_at k n y true p i (Unanswered r) there e = let less = calm_less y p i (ap closing_of there.0) e in (omega arith, λ e. refl)
calm_at k n y false p i (Unanswered r) there e = let less = calm_less y p i (ap closing_of there.0) e in (omega arith, λ e. absurd (omega arith))
calm_at k n y true p i (Inconclusive r other) there e = let less = calm_less y p i (ap closing_of there.0) e in (omega arith, λ e. refl)
calm_at k n y false p i (Inconclusive r other) there e = let less = calm_less y p i (ap closing_of there.0) e in (omega arith, λ e. absurd (omega arith))
calm_at k n y o p i (Withdrawn r b) there e = let less = calm_less y p i (ap closing_of there.0) e in rw there.0 (omega (arith, less))
calm_at k n y o p i _ there e = e

pub tries_less : (complete : Bool) (n : ℕ) → n < 8 → tries_after complete n < 8
tries_less true n h = omega arith
tries_less false n h = h

-- and at the next command again
pub sends_calm : (k : Kept) (n : SearchAddress) (y : Way) (p : Purpose) (s : Stage) (c : Command) (o : Bool) (i : ℕ) → Sends k n p s c → CalmAt s y p o i
    → IsWithinSilence y p i
sends_calm k n y p (Unanswered r) c o i e calm = absurd (let on = (goes k n p (Unanswered r) c e).follows.leads_on in cc)
sends_calm k n y p (Inconclusive r other) c o i e calm = absurd (let on = (goes k n p (Inconclusive r other) c e).follows.leads_on in cc)
sends_calm k n y p _ c o i e calm = calm

-- A FRAME THAT IS OUTSTANDING
pub sending : (w : Machine) (l : Option Order) (f : Forward) → frame_put l ≡ Some f → Pending w l → IsSending w f
sending w (Some (Put p g)) f is e = subst (λ d. IsSending w d) (let same : g ≡ f = cc in same) e
sending w _ f is e = absurd (cc)

-- also if only the bus is waited for
pub waiting : (w : Machine) (l : Option Order) → due_after l ≡ due.Bus → Pending w l → IsReady w
waiting w (Some (Put p f)) is e = e.ready
waiting w _ is e = absurd (cc)

pub sending_lawful : (w : Machine) (f : Forward) → IsSending w f → Lawful w.kept.block w.kept.reserved w.trace f
sending_lawful w f e =
    lawful_follows w.kept.block w.kept.reserved w.trace f (goes w.kept w.course.number w.course.purpose (stage_of w.trace) (command_of f) e.sends).follows

-- TO GO ON
pub put_whole : (w : Machine) (s : Stage) (c : Command) (p : ℕ) (f : Forward) → IsHeard w s → Sends w.kept w.course.number w.course.purpose s c
    → (IsSpelled c → command_of f ≡ c) → IsWhole (record w { last = Some (Put p f) })
put_whole w s c p f h e read = record {
  ready = record {
    tries = h.tries;
    calm = sends_calm w.kept w.course.number w.course.way w.course.purpose s c w.course.opened w.silent e h.calm;
    knows = h.knows;
  };
  sends = rw (h.stage, read (goes w.kept w.course.number w.course.purpose s c e).spelled) e;
}

pub begun_none : (t : Machine) (o : Option End) → o ≡ None → running_close t ≡ None → IsBegun t o
begun_none t o is none = subst (IsBegun t) (sym is) none

pub not_empty : (t : List Entry) (s : Stage) → stage_of t ≡ s → (s ≡ Free → ⊥) → t ≡ [] → ⊥
not_empty t s is later empty = later (sym is ∙ ap stage_of empty ∙ stage_none)

-- a later frame, with the course that it leaves
pub later_ordered : (t : Machine) (c : Course) (s : Stage) (d : Command) → Goes t.kept c.number c.purpose s d → stage_of t.trace ≡ s → (s ≡ Free → ⊥)
    → t.tries < 8 → t.silent < most_silent t.course.way → closing_of t.course.purpose ≡ None
    → ((r : SearchAddress) → stage_of t.trace ≡ Unnamed r → AfterMaskOn t.course.way t c r (Put LATER (frame_of d)))
    → ((r : SearchAddress) (b : ℕ) → s ≡ Withdrawn r b → ⊥) → IsOrderedTo t c (Put LATER (frame_of d))
later_ordered t c s d on stage later tries calm going masked found =
    let spelled : command_of (frame_of d) ≡ d = read_written d on.spelled in
    let unclosed = on.unclosed later in
    record {
      allowed = inr (
        refl,
        not_empty t.trace s stage later,
        lawful_follows t.kept.block t.kept.reserved t.trace (frame_of d) (rw (stage, spelled) on.follows),
      );
      addressing = λ g is. on.addressing g (sym spelled ∙ is);
      caused = (begun_none t (closing_of c.purpose) unclosed going, inl unclosed);
      given_up = λ n. absurd (omega (arith, tries, n));
      silent = λ n. absurd (omega (arith, calm, n));
      unnamed = masked;
      found = λ r b is. absurd (found r b (sym stage ∙ is));
    }

abbrev pub IsMasked : Machine → Order → Type 0
IsMasked w o = (r : SearchAddress) → stage_of w.trace ≡ Unnamed r → AfterMaskOn w.course.way w w.course r o

put_next_at : (w : Machine) (s : Stage) (c : Command) → IsHeard w s → Sends w.kept w.course.number w.course.purpose s c → (s ≡ Free → ⊥)
    → IsMasked w (Put LATER (frame_of c)) → w.asked ≡ asked_by w.course.opened w.asked
    → IsNext w (Put LATER (frame_of c)) (record w { last = Some (Put LATER (frame_of c)) })
put_next_at w s c h e later masked counted =
    let on = goes w.kept w.course.number w.course.purpose s c e in
    let going = on.unclosed later in
    let calm = sends_calm w.kept w.course.number w.course.way w.course.purpose s c w.course.opened w.silent e h.calm in
    record {
      order = later_ordered w w.course s c on h.stage later h.tries (calm_less w.course.way w.course.purpose w.silent going calm) going masked
          (λ r b is. not_withdrawn w.kept w.course.number w.course.purpose r b c
          (subst (λ x. Sends w.kept w.course.number w.course.purpose x c) is e));
      state = ap (λ a. record w { last = Some (Put LATER (frame_of c)); asked = a }) counted;
    }

pub put_next : (w : Machine) (s : Stage) (c : Command) (p : ℕ) (f : Forward) → IsHeard w s → Sends w.kept w.course.number w.course.purpose s c → (s ≡ Free → ⊥)
    → IsMasked w (Put LATER (frame_of c)) → w.asked ≡ asked_by w.course.opened w.asked → p ≡ LATER → f ≡ frame_of c
    → IsNext w (Put p f) (record w { last = Some (Put p f) })
put_next w s c p f h e later masked counted first is = rw (first, is) (put_next_at w s c h e later masked counted)

-- TO BEGIN
terminates : (p : Purpose) (n : SearchAddress) → (closing_of p ≡ None) ⊎ ((FIRST ≡ FIRST) × (frame_of (first_of p n) ≡ frame_of Terminate))
terminates (Closing e) n = inr (refl, refl)
terminates _ n = inl refl

silent_closes : (y : Way) (p : Purpose) (i : ℕ) → IsWithinSilence y p i → i ≡ most_silent y → p ≡ Closing GaveUp
silent_closes y (Closing GaveUp) i calm is = refl
silent_closes y _ i calm is = absurd (omega arith)

pub first_spelled : (y : Way) (k : Kept) (n : SearchAddress) (s : Search) (v : Ascent) (o : Bool) (p : Purpose) → Knows y k n s v o p → IsSpelled (first_of p n)
first_spelled y k n s v o (Resolving a) e = e.2
first_spelled y k n s v o (Asking a) e = e.2
first_spelled y k n s v o _ e = tt

-- a first frame if nothing can be given to gear that answered MASK
left_follows : (t : Machine) (r : SearchAddress) (reserved free : Option ℕ) (o : Order) → is_left_by t (value_of r) reserved free ≡ true
    → o ≡ beginning (next_course t) → AfterMaskBy t r reserved free o
left_follows t r (Some a) free o left is = rw left is
left_follows t r None (Some a) o left is = absurd (cc)
left_follows t r None None o left is = is

masked_first : (y : Way) (w : Machine) (c : Course) (r : SearchAddress) → IsUngiven y w r → IsNextTo y w c.purpose c.number
    → AfterMaskOn y w c r (Put FIRST (frame_of (first_of c.purpose c.number)))
masked_first Fresh w c r ungiven next = inr (ungiven.0, ungiven.1, next)
masked_first Surveying w c r ungiven next = left_follows w r (address_for w.kept.reserved (value_of r)) (least_open w.kept w.heard) _ ungiven next

abbrev IsKnown : Machine → Course → Type 0
IsKnown t c = Knows c.way t.kept c.number c.search c.ascent c.opened c.purpose

free_of : (t : List Entry) → t ≡ [] → stage_of t ≡ Free
free_of t empty = ap stage_of empty ∙ stage_none

pub begin_moment : (t : Machine) (c : Course) → c ≡ next_course t → Begins t c → IsKnown t c → IsMoment t (beginning c) (machine_ordered_on t c (beginning c))
begin_moment t c is b knows =
    let tries : t.tries < 8 = b.tries in
    let small : IsSpelled (first_of c.purpose c.number) = first_spelled c.way t.kept c.number c.search c.ascent c.opened c.purpose knows in
    let read : command_of (frame_of (first_of c.purpose c.number)) ≡ first_of c.purpose c.number = read_written (first_of c.purpose c.number) small in
    let on = goes_first t.kept c.number c.purpose small in
    record {
      begins = λ e. refl;
      course = is;
      next = record {
        order = record {
          allowed = inl (
            refl,
            lawful_follows t.kept.block t.kept.reserved [] (frame_of (first_of c.purpose c.number)) (rw (read, stage_none) on.follows),
          );
          addressing = λ g is. on.addressing g (sym read ∙ is);
          caused = (b.turns, terminates c.purpose c.number);
          given_up = λ e. absurd (omega arith);
          silent = λ e. silent_closes c.way c.purpose t.silent b.calm (e ∙ ap most_silent (sym b.way));
          unnamed = λ r e. let x = b.unnamed r e in masked_first t.course.way t c r x.0 x.1;
          found = b.found;
        };
        state = refl;
      };
      whole = record {
        ready = record { tries = b.tries; calm = b.calm; knows = knows };
        sends = rw (stage_none, read) (refl, small);
      };
    }

-- a transaction that begins with the next course, if it may begin, is a moment
pub begun_moment : (t : Machine) (c : Course) (o : Order) (new : Machine) → c ≡ next_course t → Begins t c → Begun t c o new → IsMoment t o new
begun_moment t c o new is b begun = rw (begun.state, begun.order) (begin_moment t c is b begun.knows)

-- what begins a transaction
pub begun_by : (t : Machine) (c : Course) (u : List Entry) (q : ℕ) (f : Forward) (asked : ℕ) → IsKnown t c → u ≡ [] → q ≡ FIRST
    → f ≡ frame_of (first_of c.purpose c.number) → asked ≡ asked_by c.opened t.asked
    → Begun t c (Put q f) (record (machine_ordered_on t c (Put q f)) { trace = u; asked = asked })
begun_by t c u q f asked knows empty first is counted = record {
  order = ap₂ Put first is;
  state = subst (λ x. record (machine_ordered_on t c (Put x f)) { trace = u; asked = asked } ≡ machine_ordered_on t c (Put x f)) (sym first)
      (ap₂ (λ v a. record (machine_ordered_on t c (Put FIRST f)) { trace = v; asked = a }) empty counted);
  knows = knows;
}

-- TO STORE
pub commit_whole : (w : Machine) (x : Record) (t : List Entry) → IsReady w → closing_of w.course.purpose ≡ None → Fits w.kept.block x → MayAdd w.kept x
    → IsStoredIn x w.course.purpose → t ≡ [] → IsWhole (record w { trace = t; last = Some (Commit x) })
commit_whole w x t ready going fits may stored empty = record {
  ready = record { tries = ready.tries; calm = ready.calm; knows = ready.knows };
  free = free_of t empty;
  going = going;
  fits = fits;
  may = may;
  stored = stored;
}

found_at : (s : Stage) (found : Option Finding) → ((x : Finding) → finding_at s ≡ Some x → found ≡ Some x) → FoundAt s found
found_at (Withdrawn r b) found is = is _ refl
found_at (Spelled b (Some n)) found is = is _ refl
found_at (Spelled b None) found is = tt
found_at _ found is = tt

-- what is told of a frame that was heard
abbrev pub heard_by : Machine → Forward → Answer → Machine
heard_by w f h = machine_heard_to w (w.trace ++ (record { frame = f; heard = h }) ∷ []) h

pub hear_heard : (w : Machine) (f : Forward) (h : Answer) → IsWhole w → frame_put w.last ≡ Some f → IsHeard (heard_by w f h) (stage_of (heard_by w f h).trace)
hear_heard w f h whole put =
    let sent : IsSending w f = sending w w.last f put whole in
    let now : Entry = record { frame = f; heard = h } in
    let t : List Entry = w.trace ++ now ∷ [] in
    let arrived : Arrived w.kept w.course.number w.course.purpose (stage_of t) =
    rw (stage_more w.trace now) ((goes w.kept w.course.number w.course.purpose (stage_of w.trace) (command_of f) sent.sends).arrives h) in
    let found : finding_of t ≡ finding_at (stage_of t) = finding_after w.kept.block w.kept.reserved w.trace now (sending_lawful w f sent) in
    record {
      stage = refl;
      tries = tries_less (is_complete w.kept (closing_of w.course.purpose) (stage_of t) || is_ended w.course.purpose w.course.number (stage_of t)
          || is_passed_by w (stage_of t)) w.tries sent.ready.tries;
      arrived = arrived;
      calm = calm_at w.kept w.course.number w.course.way w.course.opened w.course.purpose w.silent (stage_of t) arrived sent.ready.calm;
      knows = sent.ready.knows;
      finding = found_at (stage_of t) (later w.finding (finding_of t)) (λ x e. ap (later w.finding) (found ∙ e));
      trace_finding = found_at (stage_of t) (finding_of t) (λ x e. found ∙ e);
    }

-- LOST
lost_begins : (w : Machine) → IsReady w → (w.tries + 1 ≡ 8 → ⊥) → Begins (machine_lost w) w.course
lost_begins w ready more =
    let less : w.tries < 8 = ready.tries in
    let free : stage_of [] ≡ Free = stage_none in
    record {
      tries = omega (arith, more);
      way = refl;
      calm = ready.calm;
      turns = same (machine_lost w) w.course.purpose refl;
      unnamed = λ r e. absurd (cc);
      found = λ r b e. absurd (cc);
    } where
      same : (t : Machine) (p : Purpose) → t.course.purpose ≡ p → IsBegun t (closing_of p)
      same t (Closing e) is = inl (ap closing_of is)
      same t _ is = ap closing_of is

rests : (w : Machine) → due_after w.last ≡ due.Bus → next_course (machine_lost w) ≡ w.course
rests w bus = ap (begins_at (machine_lost w)) stage_none ∙ go w.last bus where
  go : (l : Option Order) → due_after l ≡ due.Bus → at_rest (machine_lost w) l ≡ w.course
  go (Some (Put p f)) bus = refl
  go _ bus = absurd (cc)

-- the same transaction once more, after it was lost
pub lost_moment : (w : Machine) (t : List Entry) (o : Order) (new : Machine) → IsWhole w → due_after w.last ≡ due.Bus → t ≡ [] → (w.tries + 1 ≡ 8 → ⊥)
    → Begun (record w { trace = t; tries = w.tries + 1 }) w.course o new → IsMoment (machine_lost w) o new
lost_moment w t o new whole bus empty more begun =
    begun_moment (machine_lost w) w.course o new (sym (rests w bus)) (lost_begins w (waiting w w.last bus whole) more)
    (subst (λ u. Begun (record w { trace = u; tries = w.tries + 1 }) w.course o new) empty begun)

lost_ended_at : (w : Machine) → IsReady w → w.tries + 1 ≡ 8 → IsOrderedTo (machine_lost w) w.course (Done GaveUp)
lost_ended_at w ready is =
    let free : stage_of [] ≡ Free = stage_none in
    record {
      allowed = tt;
      addressing = tt;
      caused = inl (refl, is);
      given_up = λ e. refl;
      silent = λ e. silent_closes w.course.way w.course.purpose w.silent ready.calm e;
      unnamed = λ r e. absurd (cc);
      found = λ r b e. absurd (cc);
    }

pub ordered_on : (t : Machine) (o : Order) (new : Machine) → new ≡ machine_ordered t o → new ≡ machine_ordered_on t new.course o
ordered_on t o new state = state ∙ ap (λ c. machine_ordered_on t c o) (sym (ap (λ (m : Machine). m.course) state))

pub lost_ended : (w : Machine) (t : List Entry) (o : Order) (new : Machine) → IsWhole w → due_after w.last ≡ due.Bus → t ≡ [] → w.tries + 1 ≡ 8
    → o ≡ Done GaveUp → new ≡ machine_ordered (record w { trace = t; tries = w.tries + 1 }) o → IsNext (machine_lost w) o new
lost_ended w t o new whole put empty is done state = record {
  order = rw (ap (λ (m : Machine). m.course) state ∙ ap (course_by (record w { trace = t; tries = w.tries + 1 })) done, done)
      (lost_ended_at w (waiting w w.last put whole) is);
  state = ordered_on (machine_lost w) o new (state ∙ ap (λ u. machine_ordered (record w { trace = u; tries = w.tries + 1 }) o) empty);
}

-- TO GIVE
may_give : (k : Kept) (r : SearchAddress) (a : ℕ) → IsKept k → Has k.reserved (a, value_of r) → MayGive k.block k.reserved r a
may_give k r a m h = record {
  drawn = m.reserved_drawn (value_of r) (has_map (λ q. q.1) k.reserved (a, value_of r) h);
  within = m.within a (has_map (λ q. q.0) k.reserved (a, value_of r) h);
  reserved_for = h;
}

pub sends_program : (k : Kept) (n r : SearchAddress) (p : Purpose) (a m : ℕ) → IsKept k → (p ≡ Visiting) × (r ≡ n) → m ≡ value_of r → Has k.reserved (a, m)
    → Sends k n p (Unnamed r) (Program (Some a))
sends_program k n r p a m kept visiting is h =
    let there : Has k.reserved (a, value_of r) = subst (λ v. Has k.reserved (a, v)) is h in
    (visiting.0, visiting.1, (a, kept.reserved.short a (has_map (λ q. q.0) k.reserved (a, value_of r) there), may_give k r a kept there, refl))
