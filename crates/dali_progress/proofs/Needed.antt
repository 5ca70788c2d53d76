use Rattle.dali_progress.proofs.Below.{◌≡◌, ℕ, List, [], ◌∷◌, ◌++◌, refl, lit<, Some, None, false, true, sym, ap, subst, ◌∙◌, arith, command_of, frame}
use Rattle.dali_progress.proofs.Below.{answers_of, Everyone, stage_of, End, Input, Plan, IsPlan, start, controller_at, Event, happens, Allowed, IsDue, HasDraws}
use Rattle.dali_progress.proofs.Below.{allowed_by, plan_is, leaves_none, machines_at, SiteState, world, site_logged, machines, next_request, Rounds, site_after}
use Rattle.dali_progress.proofs.{Below.{ByStart, BeginsAlone, IsOfRound, HasEnded, Forward, request_of, Request}, Logged.begins_new, Playing.{Plays, rounds_by}}
use Rattle.dali_progress.proofs.{Playing.{plays_by, BreaksEnd}, Session.{block, opening, searching, compare, ending, given_first, given_initialise}}
use Rattle.dali_progress.proofs.Session.{given_initialise_again, given_randomise, given_randomise_again, given_high, given_middle, given_low, given_compare}
use Rattle.dali_progress.proofs.{Session.{given_close, given_done, up_to_draw}, Later.some_same}
use Rattle.dali_events.specs.declared.event.Event.TheVariants as event
use Rattle.dali_script.specs.declared.orders.Input.TheVariants as input

-- UNDISTURBED MATTERS. Short histories of one controller that starts alone, in which all events but
-- one are of rounds; it ends with all-found, and a gear that has power has no short address. The gear
-- draws its number, and would answer the COMPARE under FFFFFE.

-- one gear, which draws one number, and one controller
abbrev pub plan : Plan
plan = record { gear = 1; blocks = block ∷ []; draws = 0x123456 ∷ []; used = [] }

pub is_plan : IsPlan plan
is_plan = plan_is 1 ((0, 3) ∷ []) (0x123456 ∷ []) refl

abbrev pub site : SiteState
site = record { plan = plan; queue = 8; room = 64; log = [] }

pub starts : BeginsAlone ByStart site 0
starts = begins_new plan 8 64 block is_plan refl

-- an opening, and the order to send COMPARE under FFFFFE
abbrev pub up_to_compare : List Event
up_to_compare = opening ++ searching

before_compare : Plays (start plan 8) (machines_at 0 (block ∷ [])) 0 up_to_compare
unfolding command_of stage_of
before_compare = plays_by (start plan 8) (machines_at 0 (block ∷ [])) 0 up_to_compare refl (
  given_first,
  (given_initialise, (given_initialise_again, (given_randomise, (given_randomise_again, (given_high, (given_middle, (given_low, (given_compare, tt)))))))),
)

before_compare_rounds : Rounds false site 0 up_to_compare
before_compare_rounds = rounds_by site 0 up_to_compare refl before_compare

no_short : (a : ℕ) → None ≡ Some a → ⊥
no_short a same = cc

-- ---------------------------------------------------------------- an answer is lost

-- the gear answers, and the controller hears silence
pub gear_answers : answers_of Everyone (command_of (frame 0xA9 0)) 0 (world (site_after site up_to_compare)).gear ≡ 0xFF ∷ []
unfolding command_of stage_of
gear_answers = refl

lost_ending : Plays (world (site_logged (site_after site up_to_compare) compare)) (machines (site_logged (site_after site up_to_compare) compare)) 0 ending
unfolding command_of stage_of
lost_ending =
    plays_by (world (site_logged (site_after site up_to_compare) compare)) (machines (site_logged (site_after site up_to_compare) compare)) 0 ending refl
    (given_close, (given_done, tt))

pub answer_is_lost : BreaksEnd site 0 up_to_compare compare ending
unfolding command_of stage_of
answer_is_lost = record {
  starts = starts;
  before = before_compare_rounds;
  allowed = allowed_by (world (site_after site up_to_compare)) compare refl;
  afterwards = rounds_by (site_logged (site_after site up_to_compare) compare) 0 ending refl lost_ending;
  ended = refl;
  untrue = λ all. let short = all 0 (lit< tt) refl in no_short short.0 short.1;
}

-- ---------------------------------------------------------------- the initialisation expires

-- the same, but for the timer of the gear, which runs out before the COMPARE: no gear answers, and
-- what is heard is what is answered
expired_ending : Plays (world (site_logged (site_after site up_to_compare) (event.Expired 0)))
    (machines (site_logged (site_after site up_to_compare) (event.Expired 0))) 0 (compare ∷ ending)
unfolding command_of stage_of
expired_ending =
    plays_by (world (site_logged (site_after site up_to_compare) (event.Expired 0)))
    (machines (site_logged (site_after site up_to_compare) (event.Expired 0))) 0 (compare ∷ ending) refl (given_close, (given_done, tt))

pub initialisation_expires : BreaksEnd site 0 up_to_compare (event.Expired 0) (compare ∷ ending)
unfolding command_of stage_of
initialisation_expires = record {
  starts = starts;
  before = before_compare_rounds;
  allowed = tt;
  afterwards = rounds_by (site_logged (site_after site up_to_compare) (event.Expired 0)) 0 (compare ∷ ending) refl expired_ending;
  ended = refl;
  untrue = λ all. let short = all 0 (lit< tt) refl in no_short short.0 short.1;
}

-- POWER MATTERS. One gear, which has no power when the controller starts alone, and one controller. All
-- events are of rounds, up to the end with all-found; then the gear gets power, and it has no short
-- address.

abbrev pub dark_site : SiteState
dark_site = record { plan = plan; queue = 8; room = 64; log = event.Power 0 false ∷ [] }

starts_dark : BeginsAlone ByStart dark_site 0
starts_dark = (
  record {
    run = record { plan = is_plan; allowed = (tt, tt); leaves = (leaves_none plan (event.Power 0 false) refl, tt) };
    up = record { known = lit< tt; up = refl };
    told = refl;
    last = refl;
    machine = refl;
    bus = refl;
    trace = refl;
  },
  refl,
)

-- an opening, a COMPARE under FFFFFE, and a close
abbrev pub whole_session : List Event
whole_session = up_to_compare ++ (compare ∷ ending)

session_plays : Plays (happens (start plan 8) (event.Power 0 false)) (machines_at 0 (block ∷ [])) 0 whole_session
unfolding command_of stage_of
session_plays = plays_by (happens (start plan 8) (event.Power 0 false)) (machines_at 0 (block ∷ [])) 0 whole_session refl (
  given_first,
  (
    given_initialise,
    (
      given_initialise_again,
      (given_randomise, (given_randomise_again, (given_high, (given_middle, (given_low, (given_compare, (given_close, (given_done, tt)))))))),
    ),
  ),
)

pub power_comes_late : BreaksEnd dark_site 0 whole_session (event.Power 0 true) []
unfolding command_of stage_of
power_comes_late = record {
  starts = starts_dark;
  before = rounds_by dark_site 0 whole_session refl session_plays;
  allowed = tt;
  afterwards = tt;
  ended = refl;
  untrue = λ all. let short = all 0 (lit< tt) refl in no_short short.0 short.1;
}

-- NUMBERS TO DRAW MATTER. One gear, no number that it could draw, and one controller that starts alone.
-- All events are of rounds; then the second RANDOMISE is next, and may not be sent.

-- no round goes on from there, though the controller has not ended
pub record IsStuck (s : SiteState) (c : ℕ) (es : List Event) : Type 0 where
  pub starts : BeginsAlone ByStart s c
  pub rounds : Rounds false s c es
  pub unended : (e : End) → HasEnded (site_after s es) c e → ⊥
  pub stuck : (e : Event) → Allowed (world (site_after s es)) e → IsOfRound false (site_after s es) c e → ⊥

abbrev pub numberless : Plan
numberless = record { gear = 1; blocks = block ∷ []; draws = []; used = [] }

abbrev pub spent_site : SiteState
spent_site = record { plan = numberless; queue = 8; room = 64; log = [] }

starts_spent : BeginsAlone ByStart spent_site 0
starts_spent = begins_new numberless 8 64 block (plan_is 1 ((0, 3) ∷ []) [] refl) refl

-- an opening, up to the order to send RANDOMISE again
before_draw : Plays (start numberless 8) (machines_at 0 (block ∷ [])) 0 up_to_draw
unfolding command_of stage_of
before_draw =
    plays_by (start numberless 8) (machines_at 0 (block ∷ [])) 0 up_to_draw refl
    (given_first, (given_initialise, (given_initialise_again, (given_randomise, (given_randomise_again, tt)))))

not_due : (i : Input) → IsDue (controller_at (world (site_after spent_site up_to_draw)) 0) i → ⊥
unfolding command_of stage_of
not_due input.Committed due = due
not_due input.CommitFailed due = due
not_due _ due = cc

no_draws : HasDraws (world (site_after spent_site up_to_draw)) Everyone (frame 0xA7 0) → ⊥
unfolding command_of stage_of
no_draws draws = omega (arith, draws)

next_is : next_request (site_after spent_site up_to_draw) ≡ Some (request_of 0 1 (frame 0xA7 0))
unfolding command_of stage_of
next_is = refl

not_sent : (r : Request) (f : Forward) → next_request (site_after spent_site up_to_draw) ≡ Some r → f ≡ r.frame
    → HasDraws (world (site_after spent_site up_to_draw)) Everyone f → ⊥
not_sent r f is same draws =
    no_draws (subst (λ g. HasDraws (world (site_after spent_site up_to_draw)) Everyone g)
    (same ∙ ap (λ (q : Request). q.frame) (some_same r (request_of 0 1 (frame 0xA7 0)) (sym is ∙ next_is))) draws)

no_round : (e : Event) → Allowed (world (site_after spent_site up_to_draw)) e → IsOfRound false (site_after spent_site up_to_draw) 0 e → ⊥
no_round (event.Acted d i o) allowed of = not_due i (subst (λ n. IsDue (controller_at (world (site_after spent_site up_to_draw)) n) i) of.0 allowed.due)
no_round (event.Sent d f h) allowed of = not_sent of.0 f of.1 of.3 allowed.draws
no_round _ allowed of = of

unended : (e : End) → HasEnded (site_after spent_site up_to_draw) 0 e → ⊥
unfolding command_of stage_of
unended e ended = cc

pub no_number_is_left : IsStuck spent_site 0 up_to_draw
no_number_is_left = record { starts = starts_spent; rounds = rounds_by spent_site 0 up_to_draw refl before_draw; unended = unended; stuck = no_round }
