use Rattle.std.proofs.Common.{true, false, List, [], ◌∷◌, ◌++◌, refl, lit<}
use Rattle.dali_frame.specs.declared.frames.{Answer.TheVariants.{Silence, Byte}, Forward.Forward}
use Rattle.dali_special.specs.Command.{command_of, frame}
use Rattle.dali_script.specs.{Stages.stage_of, declared.orders.{End.TheVariants.GaveUp, Order.TheVariants.{Put, Commit, Done}}}
use Rattle.dali_script.specs.declared.records.Record.TheVariants.{Reserve}
use Rattle.dali_events.specs.{Plan.Plan, Promise.KeepsPromiseNow, Runs.{after, AllAllowed}, World.{start}, declared.event.Event.Event}
use Rattle.dali_events.proofs.Histories.{Openings.{first_block, at_123456, silent, query, opening, visit, BothHold, breaks}, Tested.all_allowed_by}
use Rattle.dali_script.specs.declared.orders.Input.TheVariants as input
use Rattle.dali_events.specs.declared.event.Event.TheVariants as event

-- WHAT A SURVEY CANNOT SEE, AND WHAT IT MUST HEED. Two histories with a used gear that are allowed, but for the premise that
-- nobody reserves its address; at the end of each two gear hold one address.

-- gear 0 comes with the address 0; gear 1 comes from the factory
abbrev one_used : Plan
one_used = record { gear = 2; blocks = first_block ∷ []; draws = 0x123456 ∷ []; used = record { gear = 0; short = 0; random = 0x0ABCDE } ∷ [] }

-- QUERY RANDOM ADDRESS (H) to the address 0
abbrev asks : Forward
asks = frame 0x01 0xC2

-- ---------------------------------------------------------------- a gear without power during the census

-- gear 0 has no power while a survey asks three times who is there, and hears silence
abbrev counting : List Event
counting =
    event.Power 0 false ∷
    event.Acted 0 input.Survey (Put 3 asks) ∷ silent 0 0x01 0xC2 ∷
    event.Acted 0 (input.Heard Silence) (Put 3 asks) ∷ silent 0 0x01 0xC2 ∷
    event.Acted 0 (input.Heard Silence) (Put 3 asks) ∷ silent 0 0x01 0xC2 ∷
    event.Lapsed ∷ []

-- so gear 1 is given the address 0; and gear 0 has power again
abbrev off_while_asked : List Event
off_while_asked = counting ++ (opening 0 ++ (visit 0 (input.Heard Silence) at_123456 0 ++ (event.Power 0 true ∷ [])))

off_allowed : AllAllowed (start one_used 8) off_while_asked
unfolding command_of stage_of
off_allowed = all_allowed_by (start one_used 8) off_while_asked refl

off_both_hold : BothHold (after one_used 8 off_while_asked)
unfolding command_of stage_of
off_both_hold = (lit< tt, refl, refl)

off_is_unsafe : KeepsPromiseNow (after one_used 8 off_while_asked) → ⊥
off_is_unsafe = breaks (after one_used 8 off_while_asked) off_both_hold

-- ---------------------------------------------------------------- a reservation of before

-- the controller reserves the address 0 for gear 1, and goes down
abbrev reserving : List Event
reserving =
    opening 0 ++ (
    event.Acted 0 (input.Heard Silence) (Commit (Reserve 0 0x123456)) ∷
    event.Acted 0 input.Committed (Done GaveUp) ∷
    event.Down 0 ∷
    event.Up 0 false ∷ [])

-- it surveys, and hears the used gear; then it gives what it had reserved all the same
abbrev reserved_before : List Event
reserved_before =
    reserving ++ (
    event.Acted 0 input.Survey (Put 3 asks) ∷
    event.Sent 0 asks (Byte 0x0A) ∷
    event.Lapsed ∷
    silent 0 0xB1 0x12 ∷
    silent 0 0xB3 0x34 ∷
    silent 0 0xB5 0x56 ∷
    query 0 0xFF ∷
    silent 0 0xB7 0x01 ∷ [])

before_allowed : AllAllowed (start one_used 8) reserved_before
unfolding command_of stage_of
before_allowed = all_allowed_by (start one_used 8) reserved_before refl

before_both_hold : BothHold (after one_used 8 reserved_before)
unfolding command_of stage_of
before_both_hold = (lit< tt, refl, refl)

before_is_unsafe : KeepsPromiseNow (after one_used 8 reserved_before) → ⊥
before_is_unsafe = breaks (after one_used 8 reserved_before) before_both_hold
