use Rattle.std.specs.Prelude.{◌≡◌, ℕ, ◌==◌, nat_lt, Bool, true, false, not, ◌&&◌}
use Rattle.std.specs.Prelude.{Option, Some, None}
use Rattle.std.specs.Prelude.{is_some}
use Rattle.std.specs.Prelude.{if◌then◌else◌}
use Rattle.dali_frame.specs.declared.frames.Answer.{Answer}
use Rattle.dali_frame.specs.declared.numbers.SearchAddress.{SearchAddress}
use Rattle.dali_frame.specs.Random.{value_of}
use Rattle.dali_frame.specs.Priority.{FIRST, LATER}
use Rattle.dali_special.specs.Command.{frame_of}
use Rattle.dali_script.specs.declared.records.Record.TheVariants.{Reserve}
use Rattle.dali_script.specs.declared.stage.Stage.{Stage}
use Rattle.dali_script.specs.declared.stage.Stage.TheVariants.{Free, Opened, DrawBarred, Probed}
use Rattle.dali_script.specs.declared.stage.Stage.TheVariants.{Hunted, Unnamed, PassedOver}
use Rattle.dali_script.specs.declared.stage.Stage.TheVariants.{Unanswered, Inconclusive, HighAsked}
use Rattle.dali_script.specs.Stages.{stage_of}
use Rattle.dali_script.specs.declared.orders.Order.{Order}
use Rattle.dali_script.specs.declared.orders.Order.TheVariants.{Put, Commit, Done, Halt}
use Rattle.dali_script.specs.declared.orders.End.TheVariants.{AllFound, BlockFull, GaveUp}
use Rattle.dali_search.specs.declared.step.Step.{Step}
use Rattle.dali_search.specs.declared.step.Step.TheVariants.{Again, Found, Nobody}
use Rattle.dali_search.specs.Ascending.{leads_to}
use Rattle.dali_controller.specs.declared.purpose.Purpose.{Purpose}
use Rattle.dali_controller.specs.declared.purpose.Purpose.TheVariants.{Hunting, Calling}
use Rattle.dali_controller.specs.declared.tally.Tally.{Tally}
use Rattle.dali_controller.specs.declared.way.Way.{Way}
use Rattle.dali_controller.specs.declared.way.Way.TheVariants.{Fresh, Surveying}
use Rattle.dali_controller.specs.Course.{Course, first_of, searching_first, visiting, resolving}
use Rattle.dali_controller.specs.Course.{hunting, hunting_first, hunting_above, hunted, missed}
use Rattle.dali_controller.specs.Course.{byte_to_send, bytes_to_send, probed, passing_over}
use Rattle.dali_controller.specs.Course.{calling, drawing, opening_anew, opening_at_last}
use Rattle.dali_controller.specs.Course.{closing, address_for, going_on, asking_again, is_yes}
use Rattle.dali_controller.specs.Course.{least_open, next_unfinished}
use Rattle.dali_controller.specs.Tally.{is_some_passed, heard_call, silent_call}
use Rattle.dali_controller.specs.Machine.{Machine}

-- THE TABLE OF MOMENTS, first half: which transaction begins next, if one does, in a machine that
-- was told an input.

abbrev pub goes_on_to : Machine → Course
goes_on_to t = going_on t.kept t.course.opened t.course

-- ---------------------------------------------------------------- a visit that failed

-- so many in a row end it
abbrev pub most_silent : Way → ℕ
most_silent Fresh = 16
most_silent Surveying = 80

-- In a survey the search that goes up begins anew; at the second time in a row the number is passed
-- over.
abbrev pub is_failed : Option ℕ → ℕ → Bool
is_failed None r = false
is_failed (Some n) r = n == r

abbrev pub missed_again : Bool → Course → Course
missed_again true c = passing_over c
missed_again false c = missed c

abbrev pub silenced_on : Machine → Way → Course
silenced_on t Fresh = goes_on_to t
silenced_on t Surveying =
    missed_again (is_failed t.course.tally.failed (value_of t.course.number)) t.course

abbrev pub silenced : Machine → Course
silenced t =
    if t.silent == most_silent t.course.way then closing t.course GaveUp
    else silenced_on t t.course.way

-- gear that did not answer: in the visits before the opening the address that is reserved for its
-- number is asked
abbrev pub unanswered : Machine → SearchAddress → Bool → Option ℕ → Course
unanswered t r false (Some a) = resolving t.course a r
unanswered t r _ _ = silenced t

-- ---------------------------------------------------------------- gear that cannot be addressed

-- in a survey: whether an address is open
abbrev pub has_open : Machine → Bool
has_open t = is_some (least_open t.kept t.heard)

-- and gear may draw random addresses: three times in all
abbrev pub may_draw : Machine → Bool
may_draw t = nat_lt t.course.tally.draws 3 && has_open t

-- If no address can be given: once a visit failed, the gear of a reservation that is unfinished
-- may have got another address meanwhile. So short addresses are asked again, six times at most.
abbrev pub asks_again : Machine → Bool
asks_again t =
    nat_lt t.course.tally.askings 6 && t.course.tally.is_missed
    && is_some (next_unfinished t.kept 0)

abbrev pub full : Machine → Course → Course
full t c = if asks_again t then asking_again t.kept c else closing c BlockFull

-- gear that answered MASK, and to which no address can be given
abbrev pub ungiven : Machine → Way → Course
ungiven t Fresh = closing t.course BlockFull
ungiven t Surveying = if may_draw t then opening_anew t.course else full t t.course

-- ---------------------------------------------------------------- questions that were answered

-- COMPARE was answered, after a start
abbrev pub probed_in : Machine → Answer → Course
probed_in t h = probed t.course h

-- In a hunt: no gear is left. If it found some, the roll is called. If it found none, some gear
-- never drew a random address. If they may draw no more, it gives up; but first the roll is called,
-- unless gear answered one since they were to draw last.
abbrev pub giving_up : Course → Course
giving_up c = if c.tally.is_heard then closing c GaveUp else calling c

abbrev pub undrawn : Machine → Course → Course
undrawn t c =
    if has_open t then (if nat_lt c.tally.draws 3 then drawing c else giving_up c) else full t c

abbrev pub nobody_left : Machine → Course → Course
nobody_left t c = if c.ascent.found == 0 then undrawn t c else calling c

abbrev pub hunted_to : Machine → Step → Course → Course
hunted_to t Nobody c = nobody_left t c
hunted_to t Again c = hunting c
hunted_to t (Found r) c = visiting c r

abbrev pub hunted_in : Machine → Answer → Course
hunted_in t h =
    hunted_to t (leads_to (hunted t.course h).ascent) (hunted t.course h)

-- In a roll call: the second silent one in a row ends the survey. If any answers, gear are
-- searched from the least number on; but at the fourth time since a visit succeeded, with some gear
-- passed over, gear draw new random addresses for the last time, or it gives up.
abbrev pub is_blocked : Tally → Bool
is_blocked y = not (nat_lt y.calls 3) && is_some_passed y.passed

abbrev pub blocked : Machine → Course
blocked t = if may_draw t then opening_at_last t.course else closing t.course GaveUp

abbrev pub called_to : Machine → Bool → Course → Course
called_to t false c =
    if c.tally.is_silent then closing c AllFound
    else calling (record c { tally = silent_call c.tally })
called_to t true c =
    if is_blocked c.tally then blocked t
    else hunting_first (record c { tally = heard_call c.tally })

abbrev pub called_in : Machine → Answer → Course
called_in t h = called_to t (is_yes h) t.course

abbrev pub compared_in : Machine → Purpose → Answer → Course
compared_in t Calling h = called_in t h
compared_in t p h = hunted_in t h

-- a short address that was silent is asked again
abbrev pub asked_once : Machine → Bool → Course
asked_once t true = goes_on_to t
asked_once t false = t.course

-- no frame was sent: the start, a transaction that was lost, or a record that is kept; of records
-- a reservation alone leads to a visit
abbrev pub at_rest : Machine → Option Order → Course
at_rest t None = goes_on_to t
at_rest t (Some (Put p f)) = t.course
at_rest t (Some (Commit (Reserve a n))) = visiting t.course n
at_rest t (Some (Commit x)) = goes_on_to t
at_rest t (Some (Done e)) = goes_on_to t
at_rest t (Some (Halt w)) = goes_on_to t

abbrev pub begins_at : Machine → Stage → Course
begins_at t Free = at_rest t t.last
begins_at t Opened = searching_first t.course.way t.course
begins_at t DrawBarred = searching_first t.course.way t.course
begins_at t (HighAsked a high) = asked_once t (t.asked == 0)
begins_at t (Probed r h) = probed_in t h
begins_at t (Hunted r (Some h) left) = compared_in t t.course.purpose h
begins_at t (Unnamed r) = ungiven t t.course.way
begins_at t (Unanswered r) =
    unanswered t r t.course.opened (address_for t.kept.reserved (value_of r))
begins_at t (Inconclusive r other) = silenced t
begins_at t (PassedOver r) = hunting_above t.course
begins_at t _ = goes_on_to t

abbrev pub next_course : Machine → Course
next_course t = begins_at t (stage_of t.trace)

-- its first frame
abbrev pub beginning : Course → Order
beginning c = Put FIRST (frame_of (first_of c.purpose c.number))

-- A hunt goes on with the next question if it has room: for the bytes that change, and COMPARE.
abbrev pub is_hunting : Purpose → Bool
is_hunting Hunting = true
is_hunting p = false

abbrev pub has_room : Course → SearchAddress → ℕ → Bool
has_room c r left = is_hunting c.purpose && nat_lt (bytes_to_send c.number r) left

abbrev pub question : Course → SearchAddress → ℕ → Order
question c r left =
    if has_room c r left then Put LATER (frame_of (byte_to_send c.number r)) else beginning c

-- an order leaves the course, but a first frame, and the next question of a hunt
abbrev pub asked_on : Machine → Purpose → Answer → Course
asked_on t Hunting h = hunted_in t h
asked_on t p h = t.course

abbrev pub course_on : Machine → Stage → Course
course_on t (Hunted r (Some h) left) = asked_on t t.course.purpose h
course_on t s = t.course

abbrev pub course_by : Machine → Order → Course
course_by t (Put p f) = if p == FIRST then next_course t else course_on t (stage_of t.trace)
course_by t (Commit x) = t.course
course_by t (Done e) = t.course
course_by t (Halt w) = t.course

-- and a first frame is that of the transaction that begins
abbrev pub BeginsWith : Course → Order → Type 0
BeginsWith c (Put p f) = p ≡ FIRST → f ≡ frame_of (first_of c.purpose c.number)
BeginsWith c (Commit x) = Unit {0}
BeginsWith c (Done e) = Unit {0}
BeginsWith c (Halt w) = Unit {0}
