use Rattle.std.proofs.Common.{◌≡◌, ℕ, Bool, true, List, [], ◌∷◌, ◌++◌, map, Some, None, refl, lit<, arith, ◌&&◌}
use Rattle.dali_frame.specs.{Random.value_of, declared.frames.Answer.TheVariants.Silence}
use Rattle.dali_special.specs.{Command.{command_of, frame}, declared.command.{Command.TheVariants.Initialise, Target.TheVariants.Unaddressed}}
use Rattle.dali_script.specs.{Stages.stage_of, declared.{orders.Order.TheVariants.{Put, Commit}, records.Record.TheVariants.Reserve}}
use Rattle.dali_script.proofs.Giving.{first_of_both, second_of_both}
use Rattle.dali_events.specs.{Allowed.{Allowed, IsDestroyed}, Plan.Plan, Promise.KeepsPromiseNow, Runs.after, Telling.{Happening, rightly, as_damaged}}
use Rattle.dali_events.specs.{Telling.{happened, AllMayHappen, after_happened, all_told}, World.{World, gear_at, start}}
use Rattle.dali_events.proofs.Histories.Openings.{first_block, second_block, at_123456, silent, query, opening, BothHold, breaks}
use Rattle.dali_events.proofs.Histories.Tested.{is_allowed, allowed_by}
use Rattle.dali_script.specs.declared.orders.Input.TheVariants as input
use Rattle.dali_events.specs.declared.event.Event.TheVariants as event

-- A QUESTION THAT WAS DESTROYED, and told as damaged: the half pair that it leaves. And why no other frame is told so: two histories
-- in which one is.

-- any frame may be told so
abbrev MayBeTold : World → Happening → Type 0
MayBeTold w (rightly e) = Allowed w e
MayBeTold w (as_damaged c f set) = IsDestroyed w c f set

abbrev AllMayBeTold : World → List Happening → Type 0
AllMayBeTold w [] = Unit {0}
AllMayBeTold w (x ∷ xs) = MayBeTold w x × AllMayBeTold (happened w x) xs

abbrev may_be_told : World → Happening → Bool
may_be_told w (rightly e) = is_allowed w e
may_be_told w (as_damaged c f set) = is_allowed w (event.Destroyed c f set)

abbrev all_may_be_told : World → List Happening → Bool
all_may_be_told w [] = true
all_may_be_told w (x ∷ xs) = may_be_told w x && all_may_be_told (happened w x) xs

told_by : (w : World) (x : Happening) → may_be_told w x ≡ true → MayBeTold w x
told_by w (rightly e) passes = allowed_by w e passes
told_by w (as_damaged c f set) passes = allowed_by w (event.Destroyed c f set) passes

all_told_by : (w : World) (xs : List Happening) → all_may_be_told w xs ≡ true → AllMayBeTold w xs
all_told_by w [] passes = tt
all_told_by w (x ∷ xs) passes = (told_by w x (first_of_both _ _ passes), all_told_by (happened w x) xs (second_of_both _ _ passes))

-- ---------------------------------------------------------------- a half pair at a first frame

abbrev two_controllers : Plan
two_controllers = record { gear = 1; blocks = first_block ∷ second_block ∷ []; draws = 0x123456 ∷ []; used = [] }

-- controller 0 goes down between the two INITIALISE; controller 1 asks short address 0 for its random address, the question is
-- destroyed, no gear takes it, and its answer is told as damaged
abbrev asking : List Happening
asking = rightly (silent 0 0xA1 0) ∷ rightly (silent 0 0xA5 0xFF) ∷ rightly (event.Down 0) ∷ as_damaged 1 (frame 0x01 0xC2) 0 ∷ []

may_happen : AllMayHappen (start two_controllers 8) asking
unfolding command_of stage_of
may_happen =
    let each = all_told_by (start two_controllers 8) asking refl in
    (each.0, (each.1.0, (each.1.1.0, ((each.1.1.1.0, refl), tt))))

-- the gear has its half pair still, and in the run of what was told it has none
half_is_left : ((gear_at (after_happened two_controllers 8 asking) 0).half ≡ Some (Initialise Unaddressed))
    × ((gear_at (after two_controllers 8 (all_told asking)) 0).half ≡ None)
unfolding command_of stage_of
half_is_left = (refl, refl)

-- ---------------------------------------------------------------- a search byte

-- gear 1 draws a number that has FF for the middle byte, which every search address has at power-on
abbrev two_gear_alone : Plan
two_gear_alone = record { gear = 2; blocks = first_block ∷ []; draws = 0x123456 ∷ 0x12FF56 ∷ []; used = [] }

abbrev reserving : List Happening
reserving =
    map rightly (opening 0) ++
    (rightly (event.Acted 0 (input.Heard Silence) (Commit (Reserve 0 (value_of at_123456)))) ∷
    rightly (event.Acted 0 input.Committed (Put 3 (frame 0xB1 0x12))) ∷
    rightly (silent 0 0xB1 0x12) ∷
    [])

-- SEARCHADDRM is destroyed, and gear 0 alone takes it: both gear are searched then, and both store the address
abbrev giving_both : List Happening
giving_both = reserving ++ (as_damaged 0 (frame 0xB3 0x34) 1 ∷ rightly (silent 0 0xB5 0x56) ∷ rightly (query 0 0xFF) ∷ rightly (silent 0 0xB7 0x01) ∷ [])

search_byte_told : AllMayBeTold (start two_gear_alone 8) giving_both
unfolding command_of stage_of
search_byte_told = all_told_by (start two_gear_alone 8) giving_both refl

both_hold : BothHold (after_happened two_gear_alone 8 giving_both)
unfolding command_of stage_of
both_hold = (lit< tt, refl, refl)

breaks_promise : KeepsPromiseNow (after_happened two_gear_alone 8 giving_both) → ⊥
breaks_promise = breaks (after_happened two_gear_alone 8 giving_both) both_hold

-- ---------------------------------------------------------------- PROGRAM SHORT ADDRESS

abbrev one_gear_alone : Plan
one_gear_alone = record { gear = 1; blocks = first_block ∷ []; draws = 0x123456 ∷ []; used = [] }

-- it is destroyed, and no gear takes it
abbrev programming : List Happening
programming = reserving ++ (rightly (silent 0 0xB3 0x34) ∷ rightly (silent 0 0xB5 0x56) ∷ rightly (query 0 0xFF) ∷ as_damaged 0 (frame 0xB7 0x01) 0 ∷ [])

program_told : AllMayBeTold (start one_gear_alone 8) (programming ++ rightly (query 0 0xFF) ∷ [])
unfolding command_of stage_of
program_told = all_told_by (start one_gear_alone 8) (programming ++ rightly (query 0 0xFF) ∷ []) refl

-- the gear has no short address, and in the world of what was told it holds one
holds_none : ((gear_at (after_happened one_gear_alone 8 programming) 0).short ≡ None)
    × ((gear_at (after one_gear_alone 8 (all_told programming)) 0).short ≡ Some 0)
unfolding command_of stage_of
holds_none = (refl, refl)

-- so what was told is no run: the gear of that world answers 01 to the next QUERY SHORT ADDRESS, and FF is heard
is_no_run : Allowed (after one_gear_alone 8 (all_told programming)) (query 0 0xFF) → ⊥
unfolding command_of stage_of
is_no_run here = other 0x01 0xFF refl refl here.heard.1.0 where
  other : (n m : ℕ) → n ≡ 0x01 → m ≡ 0xFF → n ≡ m → ⊥
  other n m one mask same = omega arith
