use Rattle.std.proofs.Common.{◌≡◌, ℕ, ◌<◌, ◌≤◌, List, [], ◌∷◌, ◌++◌, Some, refl, inl, inr, lit<, arith}
use Rattle.dali_frame.specs.{Random.MASK24, declared.frames.{Answer.{Answer, TheVariants.Silence}, Forward.Forward}}
use Rattle.dali_special.specs.Command.{command_of, frame}
use Rattle.dali_script.specs.{Records.{Has, InBlock}, Stages.stage_of, declared.trace.Entry.Entry}
use Rattle.dali_events.specs.{Plan.{Plan, IsPlan, block_at}, Runs.{after, AllAllowed}, Searching.{SearchesAll, NobodyAnswers, up_to_compare, sent_event}}
use Rattle.dali_events.{specs.{World.{gear_at, start}, declared.event.Event.Event}, proofs.Histories.Openings.{first_block, at_123456, query, visit}}
use Rattle.dali_events.proofs.{Histories.Tested.all_allowed_by, Invariant.Growing.leave_none, Plans.none_used}
use Rattle.dali_script.specs.declared.orders.Input.TheVariants as input

-- A WHOLE RUN: one gear and one controller. An opening, a number that is reserved, an address that is given, and at last a
-- COMPARE under FFFFFE that nobody answers. It shows that the laws speak of something.
abbrev plan : Plan
plan = record { gear = 1; blocks = first_block ∷ []; draws = 0x123456 ∷ []; used = [] }

abbrev heard : Forward → Answer → Entry
heard f h = record { frame = f; heard = h }

abbrev silent : ℕ → ℕ → Entry
silent address byte = heard (frame address byte) Silence

-- the opening
abbrev terminate : Entry
terminate = silent 0xA1 0

abbrev initialise : Entry
initialise = silent 0xA5 0xFF

abbrev randomise : Entry
randomise = silent 0xA7 0

abbrev opening : List Event
opening = sent_event 0 initialise ∷ sent_event 0 initialise ∷ sent_event 0 randomise ∷ []

-- the number is reserved, the gear at it is asked, given an address, asked again and withdrawn; and the search address is set
abbrev middle : List Event
middle = visit 0 (input.Heard Silence) at_123456 0 ++ (
    query 0 0x01 ∷
    sent_event 0 (silent 0xAB 0) ∷
    sent_event 0 (silent 0xB1 0xFF) ∷
    sent_event 0 (silent 0xB3 0xFF) ∷
    sent_event 0 (silent 0xB5 0xFE) ∷
    [])

abbrev compare : Entry
compare = silent 0xA9 0

abbrev log : List Event
log = up_to_compare [] 0 terminate opening randomise middle

is_plan : IsPlan plan
is_plan = record {
  apart = λ c d a h k in_c in_d. only c d h k;
  short = λ c a h within. small c a h within;
  draws_once = (λ h. h, tt);
  draws_below = λ r h. below r h;
  used = none_used plan refl (λ h. h, tt);
} where
  only : (c d : ℕ) → c < 1 → d < 1 → c ≡ d
  only c d h k = omega arith

  small : (c a : ℕ) → c < 1 → InBlock (block_at plan c) a → a < 64
  small c a h within = first (zero_of c h) within where
    zero_of : (c : ℕ) → c < 1 → c ≡ 0
    zero_of c h = omega arith

    first : c ≡ 0 → InBlock (block_at plan c) a → a < 64
    first e within =
        let at : InBlock first_block a = rw e at within in
        let high : a ≤ 3 = at.1 in
        omega arith

  below : (r : ℕ) → Has (0x123456 ∷ []) r → r < MASK24
  below r (inl e) = rw (← e) (lit< tt)
  below r (inr h) = absurd h

allowed : AllAllowed (start plan 8) (up_to_compare [] 0 terminate opening randomise (middle ++ sent_event 0 compare ∷ []))
unfolding command_of stage_of
allowed = all_allowed_by (start plan 8) (up_to_compare [] 0 terminate opening randomise (middle ++ sent_event 0 compare ∷ [])) refl

searches : SearchesAll plan 8 [] 0 terminate opening randomise middle compare
unfolding command_of stage_of
searches = record {
  run = record {
    plan = is_plan;
    allowed = allowed;
    leaves = leave_none plan refl (up_to_compare [] 0 terminate opening randomise (middle ++ sent_event 0 compare ∷ []));
  };
  terminate = refl;
  calm_opening = (λ e. cc, (λ e. cc, (λ e. cc, tt)));
  unbroken = (tt, (tt, (tt, tt)));
  complete = record { owner = refl; opening = (refl, tt, (refl, tt, (refl, tt, (refl, tt, refl)))); last = refl };
  calm_since = (tt, (tt, (λ e. cc, (λ e. cc, (λ e. cc, (λ e. cc, (λ e. cc, (λ e. cc, (λ e. cc, (λ e. cc, (λ e. cc, (λ e. cc, tt))))))))))));
  nobody_passed = (tt, (tt, (λ e. cc, (λ e. cc, (λ e. cc, (λ e. cc, (λ e. cc, (λ e. cc, (λ e. cc, (λ e. cc, (λ e. cc, (λ e. cc, tt))))))))))));
  compare_sent = refl;
  searched = (_, refl);
  highest = refl;
}

nobody_answers : NobodyAnswers (after plan 8 log)
unfolding command_of stage_of
nobody_answers = refl

-- the gear has the address that it was given
gifts : ((after plan 8 log).gifts ≡ (0, 0) ∷ []) × ((gear_at (after plan 8 log) 0).short ≡ Some 0)
unfolding command_of stage_of
gifts = (refl, refl)
