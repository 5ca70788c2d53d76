use Rattle.dali_progress.proofs.Below.{◌≡◌, ℕ, ◌⊎◌, inl, inr, List, [], ◌∷◌, refl, lit<, lit≤, Some, false, ◌++◌, None, Silence, command_of, frame, Terminate}
use Rattle.dali_progress.proofs.Below.{request_of, Request, without_records, Open, stage_of, Block, End, AllFound, Input, Put, Free, at_first, IsGiven, Allowed}
use Rattle.dali_progress.proofs.Below.{IsDue, Plan, controller_at, start, Event, leaves_none, plan_is, SiteState, world, next_request, site_logged, machines}
use Rattle.dali_progress.proofs.Below.{IsOfRound, site_after, GoesOn, HasEnded, ByStart, BeginsAlone, Rounds, IsTrueEnd, machines_at}
use Rattle.dali_script.specs.declared.orders.Input.TheVariants as input
use Rattle.dali_events.specs.declared.event.Event.TheVariants as event
use Rattle.dali_progress.proofs.Session.{first_given, block, given_first, opening, searching, compare, ending, given_initialise, given_initialise_again}
use Rattle.dali_progress.proofs.Session.{given_randomise, given_randomise_again, given_high, given_middle, given_low, given_compare, given_close, given_done}
use Rattle.dali_progress.proofs.Playing.{Plays, rounds_by, plays_by}

-- ALONE MATTERS. One gear and two controllers, at their start. Each event is of a round of one of the
-- two. The second one sends the first frame of its opening, and owns the bus from then on: the first
-- one waits for its own first frame, which isn't next, and nothing is due for it, for as long as the
-- second one does not go on.

-- events, each of a round of one of two controllers
abbrev pub RoundsOfBoth : SiteState → ℕ → ℕ → List Event → Type 0
RoundsOfBoth s c d [] = Unit {0}
RoundsOfBoth s c d (e ∷ es) = Allowed (world s) e × (IsOfRound false s c e ⊎ IsOfRound false s d e) × RoundsOfBoth (site_logged s e) c d es

pub record BreaksGoing (s : SiteState) (c d : ℕ) (es : List Event) : Type 0 where
  pub starts : BeginsAlone ByStart s c
  pub rounds : RoundsOfBoth s c d es
  pub stops : GoesOn false (site_after s es) c → ⊥

abbrev pub second_block : Block
second_block = record { first = 4; last = 7 }

abbrev pub two_controllers : Plan
two_controllers = record { gear = 1; blocks = block ∷ second_block ∷ []; draws = 0x123456 ∷ []; used = [] }

abbrev pub shared_site : SiteState
shared_site = record { plan = two_controllers; queue = 8; room = 64; log = [] }

-- both order TERMINATE, the second one first
abbrev pub taking_the_bus : List Event
taking_the_bus =
    event.Acted 1 input.Start (Put 3 (frame 0xA1 0)) ∷
    event.Acted 0 input.Start (Put 3 (frame 0xA1 0)) ∷
    event.Sent 1 (frame 0xA1 0) Silence ∷
    []

pub given_second : IsGiven (at_first 1 (without_records second_block)) input.Start (Put 3 (frame 0xA1 0))
unfolding command_of stage_of
given_second =
    first_given (at_first 1 (without_records second_block)) input.Start Free Terminate (λ e. cc)
    (refl, tt, refl, refl, tt) refl refl (refl, inl refl) (Open, tt, refl) (λ g e. cc)

pub starts : BeginsAlone ByStart shared_site 0
starts = (
  record {
    run = record { plan = plan_is 1 ((0, 3) ∷ (4, 7) ∷ []) (0x123456 ∷ []) refl; allowed = tt; leaves = tt };
    up = record { known = lit< tt; up = refl };
    told = refl;
    last = refl;
    machine = refl;
    bus = refl;
    trace = refl;
  },
  refl,
)

rounds : RoundsOfBoth shared_site 0 1 taking_the_bus
unfolding command_of stage_of
rounds = (
  record { up = record { known = lit< tt; up = refl }; due = refl; order = inl (refl, (block, [], (Open, tt, refl))) },
  inr (refl, tt, given_second, λ e. absurd (cc), leaves_none two_controllers _ refl),
  (
    record { up = record { known = lit< tt; up = refl }; due = refl; order = inl (refl, (block, [], (Open, tt, refl))) },
    inl (refl, tt, given_first, λ e. absurd (cc), leaves_none two_controllers _ refl),
    (
      record { up = record { known = lit< tt; up = refl }; may = inr (refl, (block, [], (Open, tt, refl))); draws = lit≤ tt; heard = tt },
      inr (request_of 1 3 (frame 0xA1 0), refl, refl, refl, refl),
      tt,
    ),
  ),
)

unended : (e : End) → HasEnded (site_after shared_site taking_the_bus) 0 e → ⊥
unfolding command_of stage_of
unended e ended = cc

not_due : (i : Input) → IsDue (controller_at (world (site_after shared_site taking_the_bus)) 0) i → ⊥
unfolding command_of stage_of
not_due input.Committed due = due
not_due input.CommitFailed due = due
not_due _ due = cc

none_next : (r : Request) → next_request (site_after shared_site taking_the_bus) ≡ Some r → ⊥
unfolding command_of stage_of
none_next r is = cc

stops : GoesOn false (site_after shared_site taking_the_bus) 0 → ⊥
stops (inl ended) = unended ended.0 ended.1
stops (inr (inl due)) = not_due due.input due.due
stops (inr (inr next)) = none_next next.0 next.1

pub another_takes_the_bus : BreaksGoing shared_site 0 1 taking_the_bus
another_takes_the_bus = record { starts = starts; rounds = rounds; stops = stops }

-- ALONE MATTERS for the end. One gear and two controllers. All events are of rounds of the first one, but
-- those of the second one, between the opening and the search of the first: the second one sends the
-- first frame of its opening, TERMINATE, and goes down. The gear does not answer the COMPARE then; the
-- first one ends with all-found, and the gear, which has power, has no short address.

-- events of controller d: those of its rounds, and that it goes down
abbrev pub AreOfOther : SiteState → ℕ → List Event → Type 0
AreOfOther s d [] = Unit {0}
AreOfOther s d (e ∷ es) = Allowed (world s) e × (IsOfRound false s d e ⊎ (e ≡ event.Down d)) × AreOfOther (site_logged s e) d es

abbrev pub after_three : SiteState → List Event → List Event → List Event → SiteState
after_three s front others back = site_after (site_after (site_after s front) others) back

pub record BreaksEndBeside (s : SiteState) (c d : ℕ) (front others back : List Event) : Type 0 where
  pub starts : BeginsAlone ByStart s c
  pub apart : c ≡ d → ⊥
  pub before : Rounds false s c front
  pub between : AreOfOther (site_after s front) d others
  pub afterwards : Rounds false (site_after (site_after s front) others) c back
  pub ended : HasEnded (after_three s front others back) c AllFound
  pub untrue : IsTrueEnd ByStart s (after_three s front others back) c AllFound → ⊥

abbrev pub terminating_once : List Event
terminating_once =
    event.Acted 1 input.Start (Put 3 (frame 0xA1 0)) ∷
    event.Sent 1 (frame 0xA1 0) Silence ∷
    event.Down 1 ∷
    []

-- the search and the close
abbrev pub rest_of_session : List Event
rest_of_session = searching ++ (compare ∷ ending)

opening_plays : Plays (start two_controllers 8) (machines_at 0 (block ∷ second_block ∷ [])) 0 opening
unfolding command_of stage_of
opening_plays =
    plays_by (start two_controllers 8) (machines_at 0 (block ∷ second_block ∷ [])) 0 opening refl
    (given_first, (given_initialise, (given_initialise_again, (given_randomise, (given_randomise_again, tt)))))

other_plays : AreOfOther (site_after shared_site opening) 1 terminating_once
unfolding command_of stage_of
other_plays = (
  record { up = record { known = lit< tt; up = refl }; due = refl; order = inl (refl, (block, [], (Open, tt, refl))) },
  inl (refl, tt, given_second, λ e. absurd (cc), leaves_none two_controllers _ refl),
  (
    record { up = record { known = lit< tt; up = refl }; may = inr (refl, (block, [], (Open, tt, refl))); draws = lit≤ tt; heard = tt },
    inl (request_of 1 3 (frame 0xA1 0), refl, refl, refl, refl),
    (record { known = lit< tt; up = refl }, inr refl, tt),
  ),
)

searching_plays : Plays (world (site_after (site_after shared_site opening) terminating_once))
    (machines (site_after (site_after shared_site opening) terminating_once)) 0 rest_of_session
unfolding command_of stage_of
searching_plays =
    plays_by (world (site_after (site_after shared_site opening) terminating_once)) (machines (site_after (site_after shared_site opening) terminating_once))
    0 rest_of_session refl (given_high, (given_middle, (given_low, (given_compare, (given_close, (given_done, tt))))))

no_short : (a : ℕ) → None ≡ Some a → ⊥
no_short a same = cc

pub another_terminates : BreaksEndBeside shared_site 0 1 opening terminating_once rest_of_session
unfolding command_of stage_of
another_terminates = record {
  starts = starts;
  apart = λ same. cc;
  before = rounds_by shared_site 0 opening refl opening_plays;
  between = other_plays;
  afterwards = rounds_by (site_after (site_after shared_site opening) terminating_once) 0 rest_of_session refl searching_plays;
  ended = refl;
  untrue = λ all. let short = all 0 (lit< tt) refl in no_short short.0 short.1;
}
