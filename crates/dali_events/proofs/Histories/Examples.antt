use Rattle.std.proofs.Common.{◌≡◌, ℕ, true, false, List, [], ◌∷◌, ◌++◌, Some, None, refl, inl, lit<, arith}
use Rattle.dali_frame.specs.declared.frames.{Answer.TheVariants.{Silence, Byte}, Forward.Forward}
use Rattle.dali_special.specs.{Command.{command_of, frame}, declared.command.Command.TheVariants.Randomise}
use Rattle.dali_gear.specs.{Gear.{Gear, search_mask}, declared.state.InitialisationState.TheVariants.{Disabled, Enabled}}
use Rattle.dali_arbiter.specs.Arbiter.{request_of, idle}
use Rattle.dali_script.specs.{Stages.stage_of, declared.{finding.Finding.TheVariants.Queried, orders.Order.TheVariants.{Put, Commit}}}
use Rattle.dali_script.specs.declared.records.Record.TheVariants.{Reserve, Release}
use Rattle.dali_events.specs.{Happens.happens, Plan.Plan, Runs.{after_all, AllAllowed}, World.{World, gear_at, controller_at, controller_begun, start}}
use Rattle.dali_events.{specs.declared.event.Event.Event, proofs.Histories.Openings.{first_block, second_block, at_123456}}
use Rattle.dali_events.proofs.{Histories.Tested.all_allowed_by, Invariant.Growing.allowed_more}
use Rattle.dali_script.specs.declared.orders.Input.TheVariants as input
use Rattle.dali_events.specs.declared.event.Event.TheVariants as event

-- SHORT HISTORIES, EACH WITH THE WORLD THAT THE RULES GIVE. They are proved by computing the definitions.

-- a site of two gear and two controllers
abbrev plan : Plan
plan = record { gear = 2; blocks = first_block ∷ second_block ∷ []; draws = 0x123456 ∷ 0x0ABCDE ∷ []; used = [] }

abbrev site : World
site = start plan 8

-- the frames, in the standard's words
abbrev terminate : Forward
terminate = frame 0xA1 0

abbrev initialise : Forward
initialise = frame 0xA5 0xFF

abbrev randomise : Forward
randomise = frame 0xA7 0

abbrev arc : Forward
arc = frame 0xFE 0x80

abbrev program_0 : Forward
program_0 = frame 0xB7 0x01

abbrev query : Forward
query = frame 0xBB 0

-- two gear that were found at 123456 and at 0ABCDE, both with the search address 123456
abbrev found_gear : ℕ → Gear
found_gear r = record { powered = true; state = Enabled; random = r; search = at_123456; short = None; half = None }

abbrev found_site : World
found_site = record site { gear = found_gear 0x123456 ∷ found_gear 0x0ABCDE ∷ []; left = []; drawn = (0, 0x123456) ∷ (1, 0x0ABCDE) ∷ [] }

-- 1. two equal frames, one directly after the other, draw a number in each gear, in order of their number
opened : (after_all site (event.Sent 0 terminate Silence ∷ event.Sent 0 initialise Silence ∷ event.Sent 0 initialise Silence
    ∷ event.Sent 0 randomise Silence ∷ event.Sent 0 randomise Silence ∷ [])).drawn ≡ (0, 0x123456) ∷ (1, 0x0ABCDE) ∷ []
unfolding command_of
opened = refl

-- 2. an arc power frame between them breaks the pair: nothing is drawn, and the second is a first again
broken_pair : ((after_all site (event.Sent 0 initialise Silence ∷ event.Sent 0 initialise Silence ∷ event.Sent 0 randomise Silence
    ∷ event.Sent 1 arc Silence ∷ event.Sent 0 randomise Silence ∷ [])).drawn ≡ [])
    × ((gear_at (after_all site (event.Sent 0 initialise Silence ∷ event.Sent 0 initialise Silence ∷ event.Sent 0 randomise Silence
    ∷ event.Sent 1 arc Silence ∷ event.Sent 0 randomise Silence ∷ [])) 0).half ≡ Some Randomise)
unfolding command_of
broken_pair = (refl, refl)

-- 3. a quiet bus breaks it too
quiet_pair : (after_all site (event.Sent 0 initialise Silence ∷ event.Sent 0 initialise Silence ∷ event.Sent 0 randomise Silence
    ∷ event.Quiet ∷ event.Sent 0 randomise Silence ∷ [])).drawn ≡ []
unfolding command_of
quiet_pair = refl

-- 4. a PROGRAM SHORT ADDRESS that was destroyed is taken all the same by the gear of the set alone, here gear 0,
-- or by none of them
destroyed_program : ((happens found_site (event.Destroyed 0 program_0 1)).gifts ≡ (0, 0) ∷ [])
    × ((gear_at (happens found_site (event.Destroyed 0 program_0 1)) 0).short ≡ Some 0)
    × ((happens found_site (event.Destroyed 0 program_0 0)).gifts ≡ [])
unfolding command_of
destroyed_program = (refl, refl, refl)

-- 5. only the gear at the search address stores the address, and it is a gift
programmed : ((happens found_site (event.Sent 0 program_0 Silence)).gifts ≡ (0, 0) ∷ [])
    × ((gear_at (happens found_site (event.Sent 0 program_0 Silence)) 1).short ≡ None)
unfolding command_of
programmed = (refl, refl)

-- 6. a controller orders a Commit and goes down: it comes up with the record, or without it; none is outstanding then
abbrev reserving : List Event
reserving = event.Acted 0 input.Start (Commit (Reserve 0 0x123456)) ∷ event.Down 0 ∷ []

adopted : ((controller_at (after_all site (reserving ++ event.Up 0 true ∷ [])) 0)
    ≡ record {
      up = true;
      records = record { block = first_block; reserved = (0, 0x123456) ∷ []; enrolled = [] };
      outstanding = None;
      finding = None;
      told = Some input.Start;
      last = None;
    })
    × ((controller_at (after_all site (reserving ++ event.Up 0 false ∷ [])) 0)
    ≡ record {
      up = true;
      records = record { block = first_block; reserved = []; enrolled = [] };
      outstanding = None;
      finding = None;
      told = Some input.Start;
      last = None;
    })
adopted = (refl, refl)

-- 7. a commit that was reported as failed may have kept the record: it stays outstanding
failed_commit : (controller_at (after_all site (event.Acted 0 input.Start (Commit (Reserve 0 0x123456)) ∷ event.Acted 0 input.CommitFailed (Put 3 terminate)
    ∷ [])) 0).outstanding
    ≡ Some (Reserve 0 0x123456)
failed_commit = refl

-- 8. while a frame may follow the bus is the sender's, and its next frame waits in list 1; a lapse empties that list,
-- and tells the owner
abbrev begun_opening : List Event
begun_opening = event.Acted 0 input.Start (Put 3 terminate) ∷ event.Sent 0 terminate Silence ∷ event.Acted 0 (input.Heard Silence) (Put 1 initialise) ∷ []

owned : ((after_all site begun_opening).bus ≡ record { lists = (request_of 0 1 initialise ∷ []) ∷ [] ∷ [] ∷ [] ∷ [] ∷ []; owner = Some 0; capacity = 8 })
    × ((after_all site (begun_opening ++ event.Lapsed ∷ [])).bus ≡ idle 8)
    × ((controller_at (after_all site (begun_opening ++ event.Lapsed ∷ [])) 0).told ≡ Some input.Lapsed)
unfolding command_of stage_of
owned = (refl, refl, refl)

-- 9. an order at another priority than 1 gives the bus up
given_up : (after_all site (event.Acted 0 input.Start (Put 3 terminate) ∷ event.Sent 0 terminate Silence ∷ event.Acted 0 (input.Heard Silence) (Put 3 terminate)
    ∷ [])).bus.owner ≡ None
unfolding command_of stage_of
given_up = refl

-- 10. a collision: no gear takes either frame, and both senders learn that theirs was destroyed
abbrev colliding : List Event
colliding = event.Acted 0 input.Start (Put 3 terminate) ∷ event.Acted 1 input.Start (Put 3 terminate) ∷ event.Collided 0 terminate 1 terminate ∷ []

collided_told : ((controller_at (after_all site colliding) 1).told ≡ Some input.Destroyed) × ((after_all site colliding).bus ≡ idle 8)
unfolding command_of
collided_told = (refl, refl)

-- 11. a power cycle keeps the random and the short address, and nothing else
powered_again : (gear_at (after_all found_site (event.Sent 0 program_0 Silence ∷ event.Power 0 false ∷ event.Power 0 true ∷ [])) 0)
    ≡ record { powered = true; state = Disabled; random = 0x123456; search = search_mask; short = Some 0; half = None }
unfolding command_of
powered_again = refl

-- 12. a QUERY SHORT ADDRESS heard as 01 under 123456 is a finding; a lost answer is none, and nobody owns the bus then
abbrev looking : List Event
looking = event.Sent 0 (frame 0xB1 0x12) Silence ∷ event.Sent 0 (frame 0xB3 0x34) Silence ∷ event.Sent 0 (frame 0xB5 0x56) Silence ∷ []

found : ((controller_at (after_all found_site (looking ++ event.Sent 0 query (Byte 0x01) ∷ [])) 0).finding ≡ Some (Queried 0 0x123456))
    × ((controller_at (after_all found_site (looking ++ event.Sent 0 query Silence ∷ [])) 0).finding ≡ None)
    × ((after_all found_site (looking ++ event.Sent 0 query Silence ∷ [])).bus.owner ≡ None)
unfolding command_of stage_of
found = (refl, refl, refl)

-- 13. a restarted controller's requests are gone, and the others keep their order
abbrev waiting : List Event
waiting = event.Acted 0 input.Start (Put 3 terminate) ∷ event.Acted 1 input.Start (Put 3 terminate) ∷ event.Offered 0 arc ∷ event.Down 0 ∷ []

gone : (after_all site waiting).bus.lists ≡ [] ∷ [] ∷ (request_of 1 3 terminate ∷ []) ∷ [] ∷ [] ∷ []
gone = refl

-- 14. a run: the first frames of an opening are allowed, one after the other
opening_is_allowed : AllAllowed site begun_opening
unfolding command_of stage_of
opening_is_allowed = all_allowed_by site begun_opening refl

-- 15. a release takes its reservation away when it is kept; until that is known the reservation stands
abbrev releasing : List Event
releasing = event.Acted 0 input.Start (Commit (Reserve 0 0x123456)) ∷ event.Acted 0 input.Committed (Commit (Release 0 0x123456)) ∷ []

not_yet_released : ((controller_at (after_all site releasing) 0).records.reserved ≡ (0, 0x123456) ∷ [])
    × ((controller_at (after_all site (releasing ++ event.Acted 0 input.Committed (Put 3 terminate) ∷ [])) 0).records.reserved ≡ [])
not_yet_released = (refl, refl)

-- 16. a release is allowed where the gear that a controller has reserved 0 for is found with 4
abbrev reserving_site : World
reserving_site = record found_site {
  gear = record (found_gear 0x123456) { short = Some 4 } ∷ found_gear 0x0ABCDE ∷ [];
  controllers = record (controller_begun first_block) { records = record { block = first_block; reserved = (0, 0x123456) ∷ []; enrolled = [] } }
      ∷ controller_begun second_block ∷ [];
  gifts = (0, 4) ∷ [];
}

release_is_allowed : AllAllowed reserving_site (looking ++ event.Sent 0 query (Byte 0x09)
    ∷ event.Acted 0 (input.Heard (Byte 0x09)) (Commit (Release 0 0x123456)) ∷ [])
unfolding command_of stage_of
release_is_allowed =
    allowed_more reserving_site (looking ++ event.Sent 0 query (Byte 0x09) ∷ []) (event.Acted 0 (input.Heard (Byte 0x09)) (Commit (Release 0 0x123456)))
    (all_allowed_by reserving_site (looking ++ event.Sent 0 query (Byte 0x09) ∷ []) refl) (record {
      up = record { known = lit< tt; up = refl };
      due = refl;
      order = (refl, (inl refl, (Queried 4 0x123456, refl, 4, refl, λ e. apart 4 0 refl refl e)));
    })
  where
    apart : (n m : ℕ) → n ≡ 4 → m ≡ 0 → n ≡ m → ⊥
    apart n m four zero same = omega arith
