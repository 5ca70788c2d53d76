use Rattle.std.proofs.Common.{◌≡◌, true, List, [], ◌∷◌, ◌++◌, None, Some, refl, lit<}
use Rattle.dali_frame.specs.{Random.value_of, declared.frames.Answer.TheVariants.Silence, declared.numbers.SearchAddress.SearchAddress}
use Rattle.dali_special.specs.Command.{command_of, frame}
use Rattle.dali_script.specs.{Findings.search_of, Stages.stage_of, declared.trace.Entry.Entry}
use Rattle.dali_events.specs.{Happens.entry, Happens.trace_running, Plan.Plan, Runs.after, Runs.AllAllowed, Searching.EachPowered, Searching.AreCalm}
use Rattle.dali_events.specs.Searching.{BreakNoPair, PassNobody, CompletesOpening, HIGHEST, number_at, up_to_opening, up_to_compare, NobodyAnswers, HasShort}
use Rattle.dali_events.specs.{World.World, World.gear_at, World.start, declared.event.Event.Event}
use Rattle.dali_events.proofs.Histories.{Openings.first_block, Openings.second_block, Openings.at_123456, Openings.silent, Tested.all_allowed_by}

-- PASSING OVER MATTERS. Controller 0 opens, and its COMPARE under FFFFFE is not answered, although a gear with power has no short
-- address: controller 1, which surveys meanwhile, has passed it over. Each premise of `all_found_is_true` holds but that nobody
-- was passed over.

abbrev plan : Plan
plan = record { gear = 1; blocks = first_block ∷ second_block ∷ []; draws = 0x123456 ∷ []; used = [] }

abbrev first : Entry
first = entry (frame 0xA1 0) Silence

abbrev last : Entry
last = entry (frame 0xA7 0) Silence

abbrev between : List Event
between = silent 0 0xA5 0xFF ∷ silent 0 0xA5 0xFF ∷ silent 0 0xA7 0 ∷ []

-- controller 1 sends WITHDRAW to the gear at 123456, which it did not ask
abbrev passing_over : List Event
passing_over = silent 1 0xB1 0x12 ∷ silent 1 0xB3 0x34 ∷ silent 1 0xB5 0x56 ∷ silent 1 0xAB 0 ∷ []

-- and controller 0 sends the search address FFFFFE
abbrev middle : List Event
middle = passing_over ++ (silent 0 0xB1 0xFF ∷ silent 0 0xB3 0xFF ∷ silent 0 0xB5 0xFE ∷ [])

abbrev opened : World
opened = after plan 8 (up_to_compare [] 0 first between last [])

abbrev searching : World
searching = after plan 8 (up_to_compare [] 0 first between last middle)

abbrev compare : Event
compare = silent 0 0xA9 0

-- ---------------------------------------------------------------- each other premise

allowed : AllAllowed (start plan 8) (up_to_compare [] 0 first between last (middle ++ compare ∷ []))
unfolding command_of stage_of
allowed = all_allowed_by (start plan 8) (up_to_compare [] 0 first between last (middle ++ compare ∷ [])) refl

calm_opening : AreCalm between
unfolding command_of
calm_opening = (λ e. absurd (cc), (λ e. absurd (cc), (λ e. absurd (cc), tt)))

unbroken : BreakNoPair (after plan 8 (up_to_opening [] 0 first [])) between
unbroken = (tt, (tt, (tt, tt)))

complete : CompletesOpening (after plan 8 (up_to_opening [] 0 first between)) 0 last.frame
unfolding command_of stage_of
complete = record { owner = refl; opening = (refl, tt, (refl, tt, (refl, tt, (refl, tt, refl)))); last = refl }

calm_since : AreCalm middle
unfolding command_of
calm_since = (λ e. absurd (cc), (λ e. absurd (cc), (λ e. absurd (cc), (λ e. absurd (cc), (λ e. absurd (cc), (λ e. absurd (cc), (λ e. absurd (cc), tt)))))))

highest : (value_of (search_of (trace_running searching 0)) ≡ HIGHEST) × ((r : SearchAddress) × (number_at (stage_of (trace_running searching 0)) ≡ Some r))
unfolding command_of stage_of
highest = (refl, (record { high = 0xFF; middle = 0xFF; low = 0xFE }, refl))

-- ---------------------------------------------------------------- and what comes of it

silence : (NobodyAnswers searching) × (((gear_at searching 0).powered ≡ true) × ((gear_at searching 0).short ≡ None))
unfolding command_of stage_of
silence = (refl, (refl, refl))

not_all : EachPowered searching HasShort → ⊥
unfolding command_of stage_of
not_all all = let held = all 0 (lit< tt) refl in let named : None ≡ Some held.0 = held.1 in cc

-- since a gear was passed over
passed : PassNobody opened middle → ⊥
unfolding command_of stage_of
passed none = none.1.1.1.0 (refl, (at_123456, refl))
