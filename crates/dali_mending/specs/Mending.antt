use Rattle.std.specs.Prelude.{◌≡◌, ◌≢◌, ℕ, ◌+◌, ◌-◌, ◌*◌, ◌<◌, ◌≤◌, ◌==◌, ◌&&◌, nat_le, nat_lt, min}
use Rattle.std.specs.Prelude.{if◌then◌else◌, Bool, true, false, not, List, [], ◌∷◌, ◌++◌, length}
use Rattle.std.specs.Prelude.{Option, Some, None, is_some}
use Rattle.dali_frame.specs.declared.frames.Forward.{Forward}
use Rattle.dali_frame.specs.declared.frames.Answer.{Answer}
use Rattle.dali_frame.specs.declared.frames.Answer.TheVariants.{Silence, Byte, Damaged}
use Rattle.dali_script.specs.Records.{Assignment}
use Rattle.dali_script.specs.declared.trace.Entry.{Entry}
use Rattle.dali_script.specs.declared.orders.Input.{Input}
use Rattle.dali_script.specs.declared.orders.Input.TheVariants.{Heard}
use Rattle.dali_search.specs.declared.step.Step.TheVariants.{Again}
use Rattle.dali_search.specs.Ascending.{Ascent, IsAscent, ascent_at_first, ascended, asked_next}
use Rattle.dali_search.specs.Ascending.{leads_to}
use Rattle.dali_script.specs.Sending.{half_in}
use Rattle.dali_commissioning.specs.Census.{reply_of}
use Rattle.dali_commissioning.specs.Places.{random_at}
use Rattle.dali_mending.specs.declared.stage.Stage.{Stage}
use Rattle.dali_mending.specs.declared.stage.Stage.TheVariants as stage
use Rattle.dali_mending.specs.declared.course.Outcome.{Outcome}
use Rattle.dali_mending.specs.declared.course.Outcome.TheVariants as outcome
use Rattle.dali_mending.specs.declared.course.Course.{Course}
use Rattle.dali_mending.specs.declared.mending.Put.{Put}
use Rattle.dali_mending.specs.Transactions.{frame_next, answer_at}
use Rattle.dali_mending.specs.Course.{begun, at_stage, asked_anew, asked, left, searched, queried}
use Rattle.dali_mending.specs.Course.{erased}
use Rattle.dali_mending.specs.Course.{spent, IsCourse}

-- A MENDING: the short address; the numbers for which the table has others; where it is; its
-- search; the frames of the running transaction, each with what was heard; how often in a row that
-- was lost; how many transactions are left until a gear is told apart; and the numbers of those
-- that were, and have lost the short address.
pub record Mending : Type 0 where
  pub short : ℕ
  pub placed : List ℕ
  pub course : Course
  pub ascent : Ascent
  pub entries : List Entry
  pub lost : ℕ
  pub left : ℕ
  pub erased : List ℕ

-- a list of numbers has room for 64
abbrev pub is_added : List ℕ → Option ℕ → Bool
is_added xs (Some n) = nat_lt (length xs) 64
is_added xs None = false

abbrev pub with_number : List ℕ → Option ℕ → List ℕ
with_number xs (Some n) = if nat_lt (length xs) 64 then xs ++ n ∷ [] else xs
with_number xs None = xs

-- the numbers for which a table has other short addresses than this one
abbrev pub placed_by : List Assignment → ℕ → List ℕ
placed_by [] a = []
placed_by (p ∷ more) a =
    with_number (placed_by more a) (if p.0 == a then None else Some p.1)

-- by the enrolments of a table
abbrev pub mending_begun : ℕ → List Assignment → Mending
mending_begun a enrolled = record {
  short = a;
  placed = placed_by enrolled a;
  course = begun (random_at enrolled a);
  ascent = ascent_at_first;
  entries = [];
  lost = 0;
  left = 256;
  erased = [];
}

-- ---------------------------------------------------------------- what it says

abbrev pub is_over : Stage → Bool
is_over (stage.Ended o) = true
is_over _ = false

abbrev pub outcome_at : Stage → Option Outcome
outcome_at (stage.Ended o) = Some o
outcome_at _ = None

-- the first frame of a transaction at priority 3, each later one at priority 1
abbrev pub priority_after : List Entry → ℕ
priority_after [] = 3
priority_after (e ∷ t) = 1

abbrev pub put_so : List Entry → Option Forward → Option Put
put_so t (Some f) =
    Some (record { priority = priority_after t; frame = f; half = half_in t f })
put_so t None = None

abbrev pub put_next : Mending → Option Put
put_next m = put_so m.entries (frame_next m.short m.course.stage m.entries)

-- ---------------------------------------------------------------- after a transaction

-- a backward frame came, clean or damaged
abbrev pub is_heard : Answer → Bool
is_heard Silence = false
is_heard (Byte byte) = true
is_heard Damaged = true

-- the search: a new one if any gear is left, and with one more answer
abbrev pub ascent_after : Stage → List Entry → Ascent → Ascent
ascent_after stage.Left t x = ascent_at_first
ascent_after (stage.Searching n) t x = ascended x (is_heard (answer_at t 3))
ascent_after _ t x = x

-- WHERE IT IS THEN, by the stage, what was heard, and the search after it
abbrev pub course_after : ℕ → List ℕ → Stage → Course → List Entry → Ascent → Course
course_after a placed (stage.Asking last n) c t x =
    asked c last n (reply_of (answer_at t 0) (answer_at t 1) (answer_at t 2))
course_after a placed stage.Drawing c t x = at_stage c stage.Closing
course_after a placed stage.Beginning c t x = at_stage c stage.Left
course_after a placed stage.Left c t x = left c (is_heard (answer_at t 3)) (asked_next x)
course_after a placed (stage.Searching n) c t x = searched c (leads_to x) (asked_next x)
course_after a placed (stage.Keeping r n) c t x = queried a placed c r n (answer_at t 6)
course_after a placed (stage.Erasing n) c t x = erased c
course_after a placed stage.Closing c t x = asked_anew c
course_after a placed (stage.Ending o) c t x = at_stage c (stage.Ended o)
course_after a placed (stage.Ended o) c t x = c

-- WHO WAS TOLD APART, and has lost the short address: a gear told that it has none, after it was
-- erased
abbrev pub tells_none : Answer → Bool
tells_none Silence = false
tells_none (Byte byte) = byte == 255
tells_none Damaged = false

abbrev pub tells_apart : Stage → List Entry → Option ℕ
tells_apart (stage.Erasing n) t = if tells_none (answer_at t 7) then Some n else None
tells_apart _ t = None

-- each one that is told apart makes room for 256 transactions more
abbrev pub left_after : ℕ → Bool → ℕ
left_after left added = if added then 256 else left - 1

abbrev pub spent_if : ℕ → Course → Course
spent_if left c = if left == 0 then spent c else c

abbrev pub finished_so : Mending → Course → Ascent → Option ℕ → Mending
finished_so m c x apart = record {
  short = m.short;
  placed = m.placed;
  course = spent_if (left_after m.left (is_added m.erased apart)) c;
  ascent = x;
  entries = [];
  lost = 0;
  left = left_after m.left (is_added m.erased apart);
  erased = with_number m.erased apart;
}

abbrev pub finished : Mending → Mending
finished m =
    let x = ascent_after m.course.stage m.entries m.ascent in
    finished_so m (course_after m.short m.placed m.course.stage m.course m.entries x) x
    (tells_apart m.course.stage m.entries)

-- ---------------------------------------------------------------- after a frame

abbrev pub with_entry : Mending → Forward → Answer → Mending
with_entry m f h = record m { entries = m.entries ++ (record { frame = f; heard = h }) ∷ [] }

abbrev pub gone_on : Mending → Option Forward → Mending
gone_on m (Some f) = m
gone_on m None = finished m

abbrev pub heard_once : Mending → Forward → Answer → Mending
heard_once m f h =
    let n = with_entry m f h in gone_on n (frame_next n.short n.course.stage n.entries)

-- A LOST FRAME lets the transaction begin again; if that was lost eight times in a row, the mending
-- ends.
abbrev pub lost_once : Mending → Mending
lost_once m = record m {
  course =
      (if nat_le 8 (min (m.lost + 1) 255)
      then at_stage m.course (stage.Ended outcome.Lost)
      else m.course);
  entries = [];
  lost = min (m.lost + 1) 255;
}

abbrev pub told_frame : Mending → Forward → Input → Mending
told_frame m f (Heard h) = heard_once m f h
told_frame m f _ = lost_once m

abbrev pub told_at : Mending → Option Forward → Input → Mending
told_at m (Some f) i = told_frame m f i
told_at m None i = m

abbrev pub told_to : Mending → Input → Mending
told_to m i = told_at m (frame_next m.short m.course.stage m.entries) i

-- ---------------------------------------------------------------- what is true of each

-- the search goes on with the number that is asked
abbrev pub IsSought : Stage → Ascent → Type 0
IsSought (stage.Searching n) x = (leads_to x ≡ Again) × (n ≡ asked_next x)
IsSought _ x = Unit {0}

pub record IsMending (m : Mending) : Type 0 where
  pub course : IsCourse m.course
  pub sought : IsSought m.course.stage m.ascent
  pub few : length m.entries ≤ 8
  pub room : length m.erased ≤ 64
