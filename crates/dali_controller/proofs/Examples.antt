use Rattle.std.proofs.Common.{◌≡◌, ℕ, [], ◌∷◌, Bool, true, false, Some, None, refl, sym, ◌∙◌}
use Rattle.dali_frame.specs.declared.{frames.{Answer.TheVariants.{Silence, Damaged}, Forward.Forward}, numbers.SearchAddress.SearchAddress}
use Rattle.dali_special.specs.declared.command.Command.TheVariants.{Compare, Randomise}
use Rattle.dali_script.specs.{Due.{due_after, accepts}, Records.Kept, Stages.stage_of, declared.orders.End.{End, TheVariants.{AllFound, BlockFull, GaveUp}}}
use Rattle.dali_script.specs.declared.{orders.{Input.Input, Order.TheVariants.{Put, Commit, Done}}, records.Record.TheVariants.{Enrol, Release}}
use Rattle.dali_script.specs.declared.stage.Stage.TheVariants.{Unanswered, Inconclusive, Withdrawn, Hunted, DrawFree, DrawBarred}
use Rattle.dali_search.specs.Least.{answered, at_first as search_at_first}
use Rattle.dali_controller.specs.Course.{course_at_first, sought, probed, searching_anew, closing, next_unfinished, turn_of, calling, hunting_first, drawing}
use Rattle.dali_controller.specs.{Course.{missed, passing_over, opening_at_last, asking}, Machine.{Machine, at_first, machine_lost, silent_after}}
use Rattle.dali_controller.specs.{Next.{next_course, begins_at, called_in, nobody_left, silenced, ungiven}, Orders.IsWarranted, Tally.{uncounted, none_passed}}
use Rattle.dali_controller.specs.Tally.{with_passed, silent_call, heard_call, drew, missed_by, passed_over, asked_again}
use Rattle.dali_controller.specs.declared.{purpose.Purpose.TheVariants.{Calling, Drawing, Visiting}, tally.Tally.Tally, way.Way.TheVariants.Surveying}

-- WORKED EXAMPLES of the definitions.

-- a search begins with FFFFFE; silence under it closes with all-found, and a yes halves what is left
nobody_is_left : probed (searching_anew course_at_first) Silence
    ≡ closing (record (searching_anew course_at_first) { search = answered search_at_first false }) AllFound
nobody_is_left = refl

half_is_asked : (probed (searching_anew course_at_first) Damaged).number ≡ sought 0x7FFFFF
half_is_asked = refl

-- a transaction that was lost is begun again
same_again : (m : Machine) (p : ℕ) (f : Forward) → m.last ≡ Some (Put p f) → next_course (machine_lost m) ≡ m.course
unfolding stage_of
same_again m p f last = rw last refl

-- the unfinished reservation with the least short address is visited first, and one that is enrolled is passed over
least_is_visited : next_unfinished (record { block = record { first = 0; last = 3 }; reserved = (3, 7) ∷ (1, 5) ∷ (0, 6) ∷ []; enrolled = (0, 6) ∷ [] }) 0
    ≡ Some (2, 5)
least_is_visited = refl

-- a visit that led to no gear counts only after the opening, and one that led to gear ends the row
early_visits_do_not_count : (r : SearchAddress) → silent_after (Unanswered r) false 3 ≡ 3
early_visits_do_not_count r = refl

later_visits_count : (r : SearchAddress) → silent_after (Unanswered r) true 3 ≡ 4
later_visits_count r = refl

damaged_answers_count : (r : SearchAddress) → silent_after (Inconclusive r None) true 3 ≡ 4
damaged_answers_count r = refl

gear_end_the_row : (r : SearchAddress) → silent_after (Withdrawn r 5) true 3 ≡ 0
gear_end_the_row r = refl

-- a lost frame is a try
a_lost_frame_is_a_try : (k : Kept) → (machine_lost (at_first 0 k)).tries ≡ 1
a_lost_frame_is_a_try k = refl

-- after an end nothing is due
nothing_after_an_end : (e : End) (i : Input) → accepts (due_after (Some (Done e))) i ≡ false
nothing_after_an_end e _ = refl

-- a reservation is not released before its gear is enrolled, nor twice, nor if the gear has that address
no_release_before_an_enrolment : (t : Machine) (p a n : ℕ) (f : Forward) → t.last ≡ Some (Put p f) → IsWarranted t (Release a n) → ⊥
no_release_before_an_enrolment t p a n f last w = let other : Some (Put p f) ≡ Some (Commit (Enrol w.0 n)) = sym last ∙ w.1 in cc

no_second_release : (t : Machine) (a n : ℕ) → t.last ≡ Some (Commit (Release a n)) → IsWarranted t (Release a n) → ⊥
no_second_release t a n last w = let other : Some (Commit (Release a n)) ≡ Some (Commit (Enrol w.0 n)) = sym last ∙ w.1 in cc

no_release_of_what_was_given : (t : Machine) (a n : ℕ) → t.last ≡ Some (Commit (Enrol a n)) → IsWarranted t (Release a n) → ⊥
no_release_of_what_was_given t a n last w = w.2 (let same : Some (Commit (Enrol a n)) ≡ Some (Commit (Enrol w.0 n)) = sym last ∙ w.1 in cc)

-- A SURVEY. Its machine in a roll call: the search that goes up has found no gear, and one address of the block is open.
abbrev one_open : Kept
one_open = record { block = record { first = 0; last = 1 }; reserved = (0, 7) ∷ []; enrolled = [] }

abbrev full_block : Kept
full_block = record { block = record { first = 0; last = 0 }; reserved = (0, 7) ∷ []; enrolled = [] }

abbrev surveyed : Kept → Tally → Machine
surveyed k y = record (at_first 0 k) {
  course = record course_at_first { way = Surveying; opened = true; from = 64; purpose = Calling; number = sought 0xFFFFFF; tally = y };
}

-- COMPARE is sent once more after silence, and not after a yes, nor a third time
a_silent_call_asks_again : turn_of Calling (sought 0xFFFFFF) (Hunted (sought 0xFFFFFF) (Some Silence) 1) ≡ Some Compare
a_silent_call_asks_again = refl

an_answered_call_ends : turn_of Calling (sought 0xFFFFFF) (Hunted (sought 0xFFFFFF) (Some Damaged) 1) ≡ None
an_answered_call_ends = refl

a_call_asks_twice : turn_of Calling (sought 0xFFFFFF) (Hunted (sought 0xFFFFFF) (Some Silence) 0) ≡ None
a_call_asks_twice = refl

-- a roll call that was silent is followed by another one, and two in a row by the end
one_silence_is_none : called_in (surveyed one_open uncounted) Silence
    ≡ calling (record (surveyed one_open uncounted).course { tally = silent_call uncounted })
one_silence_is_none = refl

two_silences_are_the_end : called_in (surveyed one_open (silent_call uncounted)) Silence
    ≡ closing (surveyed one_open (silent_call uncounted)).course AllFound
two_silences_are_the_end = refl

-- who answers is searched, and then a roll call must be silent twice again
an_answer_is_searched : called_in (surveyed one_open (silent_call uncounted)) Damaged
    ≡ hunting_first (record (surveyed one_open uncounted).course { tally = heard_call uncounted })
an_answer_is_searched = refl

-- if no gear is found that answered the roll call, gear draw; if COMPARE is answered before, they don't, and are
-- searched
nobody_drew : nobody_left (surveyed one_open uncounted) (surveyed one_open uncounted).course ≡ drawing (surveyed one_open uncounted).course
nobody_drew = refl

-- if they may draw no more: the roll is called once more, and if gear answered one since they were to draw, it gives up
abbrev drawn_out : Bool → Tally
drawn_out heard = record uncounted { draws = 3; is_heard = heard }

it_calls_before : nobody_left (surveyed one_open (drawn_out false)) (surveyed one_open (drawn_out false)).course
    ≡ calling (surveyed one_open (drawn_out false)).course
it_calls_before = refl

it_gives_up_then : nobody_left (surveyed one_open (drawn_out true)) (surveyed one_open (drawn_out true)).course
    ≡ closing (surveyed one_open (drawn_out true)).course GaveUp
it_gives_up_then = refl

a_draw_is_not_heard : (drew (heard_call uncounted)).is_heard ≡ false
a_draw_is_not_heard = refl

a_draw_of_nobody : (n : SearchAddress) → turn_of Drawing n DrawFree ≡ Some Randomise
a_draw_of_nobody n = refl

no_draw_of_somebody : (n : SearchAddress) → turn_of Drawing n DrawBarred ≡ None
no_draw_of_somebody n = refl

somebody_is_searched : (k : Kept) (y : Tally) → begins_at (surveyed k y) DrawBarred ≡ hunting_first (surveyed k y).course
somebody_is_searched k y = refl

-- a number whose visit failed is looked for once more, and passed over when that fails too
abbrev visited : Kept → Tally → Machine
visited k y = record (surveyed k y) { course = record (surveyed k y).course { purpose = Visiting; number = sought 5 } }

a_first_failure : silenced (visited one_open uncounted) ≡ missed (visited one_open uncounted).course
a_first_failure = refl

a_second_failure : silenced (visited one_open (missed_by uncounted 5)) ≡ passing_over (visited one_open (missed_by uncounted 5)).course
a_second_failure = refl

another_failure : silenced (visited one_open (missed_by uncounted 6)) ≡ missed (visited one_open (missed_by uncounted 6)).course
another_failure = refl

the_number_is_known : (passing_over (visited one_open (missed_by uncounted 5)).course).tally.passed ≡ with_passed none_passed 5
the_number_is_known = refl

-- the fourth roll call that hears gear, if some was passed over: gear draw for the last time, and then it
-- gives up
abbrev hard_to_reach : ℕ → Tally
hard_to_reach draws = record (passed_over uncounted 5) { calls = 3; draws = draws }

they_draw_at_last : called_in (surveyed one_open (hard_to_reach 0)) Damaged ≡ opening_at_last (surveyed one_open (hard_to_reach 0)).course
they_draw_at_last = refl

it_gives_up : called_in (surveyed one_open (hard_to_reach 3)) Damaged ≡ closing (surveyed one_open (hard_to_reach 3)).course GaveUp
it_gives_up = refl

nobody_passed_over : called_in (surveyed one_open (record uncounted { calls = 3; draws = 3 })) Damaged
    ≡ hunting_first (record (surveyed one_open uncounted).course { tally = record uncounted { calls = 3; draws = 3; is_heard = true } })
nobody_passed_over = refl

-- no address is open: while a reservation is unfinished after a visit that failed, short addresses are asked again, six
-- times in all, and then the block is full
it_asks_again : ungiven (visited full_block (missed_by uncounted 5)) Surveying
    ≡ asking (record (visited full_block uncounted).course { opened = false; tally = asked_again (missed_by uncounted 5) }) 0
it_asks_again = refl

it_asks_no_more : ungiven (visited full_block (record (missed_by uncounted 5) { askings = 6 })) Surveying
    ≡ closing (visited full_block (record (missed_by uncounted 5) { askings = 6 })).course BlockFull
it_asks_no_more = refl

nothing_to_ask : ungiven (visited full_block uncounted) Surveying ≡ closing (visited full_block uncounted).course BlockFull
nothing_to_ask = refl
