use Rattle.std.specs.Prelude.{ℕ, ◌+◌, ◌==◌, nat_lt, Bool, true, false, not, ◌||◌, ◌&&◌}
use Rattle.std.specs.Prelude.{List, [], ◌∷◌, ◌++◌, Option, Some, None, is_some, if◌then◌else◌}
use Rattle.dali_frame.specs.declared.frames.Forward.{Forward}
use Rattle.dali_frame.specs.declared.frames.Answer.{Answer}
use Rattle.dali_frame.specs.declared.frames.Answer.TheVariants.{Silence}
use Rattle.dali_frame.specs.declared.numbers.SearchAddress.{SearchAddress}
use Rattle.dali_frame.specs.Random.{value_of, MASK24}
use Rattle.dali_script.specs.declared.finding.Finding.{Finding}
use Rattle.dali_script.specs.declared.records.Record.{Record}
use Rattle.dali_script.specs.declared.trace.Entry.{Entry}
use Rattle.dali_script.specs.declared.stage.Stage.{Stage}
use Rattle.dali_script.specs.declared.stage.Stage.TheVariants.{Unanswered, Inconclusive}
use Rattle.dali_script.specs.declared.stage.Stage.TheVariants.{Withdrawn}
use Rattle.dali_script.specs.declared.stage.Stage.TheVariants.{HighAsked, MiddleAsked, Spelled}
use Rattle.dali_script.specs.declared.stage.Stage.TheVariants.{Unnamed}
use Rattle.dali_script.specs.Records.{Kept, with_record}
use Rattle.dali_script.specs.Findings.{later, finding_of}
use Rattle.dali_script.specs.Stages.{stage_of, may_follow}
use Rattle.dali_script.specs.declared.orders.Input.{Input}
use Rattle.dali_script.specs.declared.orders.Input.TheVariants as input
use Rattle.dali_script.specs.declared.orders.Order.{Order}
use Rattle.dali_script.specs.declared.orders.End.{End}
use Rattle.dali_script.specs.Due.{frame_put, record_ordered}
use Rattle.dali_controller.specs.declared.purpose.Purpose.{Purpose}
use Rattle.dali_controller.specs.declared.purpose.Purpose.TheVariants.{Asking, Hunting, Calling}
use Rattle.dali_controller.specs.declared.shorts.Shorts.{Shorts}
use Rattle.dali_controller.specs.declared.way.Way.{Way}
use Rattle.dali_controller.specs.declared.way.Way.TheVariants.{Fresh, Surveying}
use Rattle.dali_controller.specs.Shorts.{with_short, without_short}
use Rattle.dali_controller.specs.Course.{Course, course_at_first, closing_of, turn_of, address_for}
use Rattle.dali_controller.specs.Course.{is_anothers}
use Rattle.dali_controller.specs.Tally.{uncounted}

-- What contracts see of a machine: its number; what it keeps; the running transaction; its last
-- finding; its last order; how often the transaction was lost; how many searches in a row led to no
-- gear; the course that it takes; under which short addresses a survey heard what was no random
-- address; and how often in a row it heard silence under the one that it asks.
pub record Machine : Type 0 where
  pub id : ℕ
  pub kept : Kept
  pub trace : List Entry
  pub finding : Option Finding
  pub last : Option Order
  pub tries : ℕ
  pub silent : ℕ
  pub course : Course
  pub heard : Shorts
  pub asked : ℕ

-- before the start
abbrev pub at_first : ℕ → Kept → Machine
at_first id k = record {
  id = id;
  kept = k;
  trace = [];
  finding = None;
  last = None;
  tries = 0;
  silent = 0;
  course = course_at_first;
  heard = record { bits = 0 };
  asked = 0;
}

-- WHAT AN INPUT TELLS.

-- a transaction is complete if no frame may follow; a close is its one frame
abbrev pub is_complete : Kept → Option End → Stage → Bool
is_complete k closing s = is_some closing || not (may_follow k.block k.reserved s)

-- and in a survey a transaction may end before, if nothing more is to be heard; a hunt may after
-- each question, and a roll call after a yes
abbrev pub is_front : Purpose → Bool
is_front Hunting = true
is_front (Asking a) = true
is_front Calling = true
is_front _ = false

abbrev pub is_ended : Purpose → SearchAddress → Stage → Bool
is_ended p n s = is_front p && not (is_some (turn_of p n s))

-- In a survey: whether what is reserved for a number is another's, if gear are searched. Then a
-- visit that found gear without short address ends before PROGRAM SHORT ADDRESS.
abbrev pub is_withheld_by : Machine → Way → ℕ → ℕ → Bool
is_withheld_by t Fresh a r = false
is_withheld_by t Surveying a r = t.course.opened && is_anothers t.kept t.heard a r

abbrev pub is_withheld : Machine → ℕ → ℕ → Bool
is_withheld t a r = is_withheld_by t t.course.way a r

abbrev pub withholds : Machine → ℕ → Option ℕ → Bool
withholds t r None = false
withholds t r (Some a) = is_withheld t a r

abbrev pub is_passed_by : Machine → Stage → Bool
is_passed_by t (Unnamed r) =
    withholds t (value_of r) (address_for t.kept.reserved (value_of r))
is_passed_by t _ = false

-- the tries of one transaction
abbrev pub tries_after : Bool → ℕ → ℕ
tries_after true n = 0
tries_after false n = n

-- The silent searches: one more if QUERY SHORT ADDRESS was heard as neither the address that was
-- wanted nor MASK, but not in the visits before the opening; none in a row if a gear was found
-- and withdrawn.
abbrev pub silent_after : Stage → Bool → ℕ → ℕ
silent_after (Unanswered r) true n = n + 1
silent_after (Inconclusive r other) true n = n + 1
silent_after (Withdrawn r b) opened n = 0
silent_after _ opened n = n

-- A short address that is asked is marked if a gear answers, until three bytes tell a number
-- that gear draw; so it stays marked if one of them is not heard, or the number is none.
abbrev pub marked_at : Stage → Answer → Shorts → Shorts
marked_at (HighAsked a None) Silence heard = heard
marked_at (HighAsked a high) h heard = with_short heard a
marked_at (MiddleAsked a bytes) h heard = with_short heard a
marked_at (Spelled a None) h heard = with_short heard a
marked_at (Spelled a (Some n)) h heard =
    if n == MASK24 then with_short heard a else without_short heard a
-- any other frame tells nothing of it
marked_at _ h heard = heard

abbrev pub heard_after : Purpose → Stage → Answer → Shorts → Shorts
heard_after (Asking a) s h heard = marked_at s h heard
heard_after _ s h heard = heard

-- silence is asked again, three times in all
abbrev pub asked_after_silence : ℕ → ℕ
asked_after_silence n = if nat_lt n 2 then n + 1 else 0

abbrev pub asked_at : Stage → Answer → ℕ → ℕ
asked_at (HighAsked a None) Silence n = asked_after_silence n
-- the row of silences ends with whatever else was sent or heard
asked_at _ h n = 0

abbrev pub asked_after : Purpose → Stage → Answer → ℕ → ℕ
asked_after (Asking a) s h n = asked_at s h n
asked_after _ s h n = 0

-- the transaction has these frames now, and this was heard after the last
abbrev pub machine_heard_to : Machine → List Entry → Answer → Machine
machine_heard_to m t h = record {
  id = m.id;
  kept = m.kept;
  trace = t;
  finding = later m.finding (finding_of t);
  last = m.last;
  tries =
      tries_after (is_complete m.kept (closing_of m.course.purpose) (stage_of t)
      || is_ended m.course.purpose m.course.number (stage_of t)
      || is_passed_by m (stage_of t)) m.tries;
  silent = silent_after (stage_of t) m.course.opened m.silent;
  course = m.course;
  heard = heard_after m.course.purpose (stage_of t) h m.heard;
  asked = asked_after m.course.purpose (stage_of t) h m.asked;
}

-- the outstanding frame was sent, and this was heard
abbrev pub machine_heard : Machine → Option Forward → Answer → Machine
machine_heard m (Some f) h =
    machine_heard_to m (m.trace ++ (record { frame = f; heard = h }) ∷ []) h
machine_heard m None h = m

-- the outstanding frame was not sent, or was destroyed: the transaction is over
abbrev pub machine_lost : Machine → Machine
machine_lost m = record m { trace = []; tries = m.tries + 1 }

-- the outstanding record is kept
abbrev pub machine_committed : Machine → Option Record → Machine
machine_committed m (Some x) = record m { kept = with_record m.kept x }
machine_committed m None = m

-- a survey begins
abbrev pub machine_surveying : Machine → Machine
machine_surveying m = record m {
  course = record m.course { way = Surveying; tally = uncounted };
}

abbrev pub machine_told : Machine → Input → Machine
machine_told m input.Start = m
machine_told m input.Survey = machine_surveying m
machine_told m (input.Heard h) = machine_heard m (frame_put m.last) h
machine_told m input.Destroyed = machine_lost m
machine_told m input.Lapsed = machine_lost m
machine_told m input.Committed = machine_committed m (record_ordered m.last)
machine_told m input.CommitFailed = m
