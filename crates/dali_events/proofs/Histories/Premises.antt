use Rattle.std.proofs.Common.{◌≡◌, List, [], ◌∷◌, ◌++◌, refl, inl, lit<}
use Rattle.dali_frame.specs.declared.frames.Answer.TheVariants.{Silence}
use Rattle.dali_special.specs.Command.{command_of, frame}
use Rattle.dali_gear.specs.Gear.{fresh}
use Rattle.dali_script.specs.Stages.{stage_of}
use Rattle.dali_script.specs.declared.orders.Input.TheVariants as input
use Rattle.dali_events.specs.{Plan.Plan, Promise.{KeepsPromiseNow, IsSafe}, Runs.{after, after_all, AllAllowed}, World.{World, start}}
use Rattle.dali_events.specs.{declared.event.Event.Event}
use Rattle.dali_events.proofs.Histories.{Openings.{first_block, at_123456, at_0abcde, up_to_draw, opening, visit, BothHold, breaks}, Tested.all_allowed_by}
use Rattle.dali_events.specs.declared.event.Event.TheVariants as event

-- PLAN AND FACTORY MATTER. Two plans that are refused, and a gear that does not come from the factory; each with a list of
-- events that are all allowed, and with an address that two gear hold in the end.

-- ---------------------------------------------------------------- a number that is drawn twice

abbrev twice_drawn : Plan
twice_drawn = record { gear = 2; blocks = first_block ∷ []; draws = 0x123456 ∷ 0x123456 ∷ []; used = [] }

-- an opening and a visit: the gear at 123456, of which there are two, store the address 0
abbrev giving_two : List Event
giving_two = opening 0 ++ visit 0 (input.Heard Silence) at_123456 0

twice_drawn_allowed : (AllAllowed (start twice_drawn 8) giving_two) × ((after twice_drawn 8 giving_two).gifts ≡ (0, 0) ∷ (1, 0) ∷ [])
unfolding command_of stage_of
twice_drawn_allowed = (all_allowed_by (start twice_drawn 8) giving_two refl, refl)

-- both gear were given the address 0
twice_drawn_is_unsafe : IsSafe (after twice_drawn 8 giving_two) → ⊥
unfolding command_of stage_of
twice_drawn_is_unsafe safe = safe.address_once.0 (inl refl)

-- ---------------------------------------------------------------- an address that lies in two blocks

abbrev overlapping : Plan
overlapping = record { gear = 2; blocks = first_block ∷ first_block ∷ []; draws = 0x123456 ∷ 0x0ABCDE ∷ []; used = [] }

-- controller 0 gives address 0 to the gear at 123456 and loses the bus; controller 1 gives it to the gear at 0ABCDE
abbrev giving_each : List Event
giving_each = giving_two ++ (event.Lapsed ∷ visit 1 input.Start at_0abcde 0)

overlapping_allowed : (AllAllowed (start overlapping 8) giving_each) × ((after overlapping 8 giving_each).gifts ≡ (0, 0) ∷ (1, 0) ∷ [])
unfolding command_of stage_of
overlapping_allowed = (all_allowed_by (start overlapping 8) giving_each refl, refl)

overlapping_is_unsafe : IsSafe (after overlapping 8 giving_each) → ⊥
unfolding command_of stage_of
overlapping_is_unsafe safe = safe.address_once.0 (inl refl)

-- ------------------------------------------------------ a gear that does not come from the factory

-- its short address was erased, and it has its random address still: the number that gear 0 will draw
abbrev not_new : Plan
not_new = record { gear = 2; blocks = first_block ∷ []; draws = 0x123456 ∷ []; used = [] }

abbrev with_erased : World
with_erased = record (start not_new 8) { gear = fresh ∷ record fresh { random = 0x123456 } ∷ [] }

-- gear 0 alone takes the second RANDOMISE; then a visit, and both gear at 123456 store the address 0
abbrev giving_both : List Event
giving_both = up_to_draw 0 ++ (event.Destroyed 0 (frame 0xA7 0) 1 ∷ visit 0 input.Destroyed at_123456 0)

with_erased_allowed : AllAllowed with_erased giving_both
unfolding command_of stage_of
with_erased_allowed = all_allowed_by with_erased giving_both refl

both_hold : BothHold (after_all with_erased giving_both)
unfolding command_of stage_of
both_hold = (lit< tt, refl, refl)

with_erased_is_unsafe : KeepsPromiseNow (after_all with_erased giving_both) → ⊥
with_erased_is_unsafe = breaks (after_all with_erased giving_both) both_hold
