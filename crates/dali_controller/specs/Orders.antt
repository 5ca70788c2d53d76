use Rattle.std.specs.Prelude.{◌≡◌, ℕ, ◌<◌, ◌⊎◌, Bool, true, false, not, ◌==◌, nat_lt}
use Rattle.std.specs.Prelude.{if◌then◌else◌, List, [], Option, Some, None, is_some}
use Rattle.dali_frame.specs.declared.frames.Forward.{Forward}
use Rattle.dali_frame.specs.declared.frames.Answer.{Answer}
use Rattle.dali_frame.specs.declared.frames.Answer.TheVariants.{Silence}
use Rattle.dali_frame.specs.declared.numbers.SearchAddress.{SearchAddress}
use Rattle.dali_frame.specs.Random.{value_of, MASK24}
use Rattle.dali_frame.specs.Priority.{FIRST, LATER}
use Rattle.dali_special.specs.declared.command.Command.{Command}
use Rattle.dali_special.specs.declared.command.Command.TheVariants.{Terminate, Program, Arc}
use Rattle.dali_special.specs.Command.{command_of, frame_of}
use Rattle.dali_script.specs.declared.finding.Finding.{Finding}
use Rattle.dali_script.specs.declared.records.Record.{Record}
use Rattle.dali_script.specs.declared.records.Record.TheVariants.{Reserve, Enrol, Release}
use Rattle.dali_script.specs.declared.trace.Entry.{Entry}
use Rattle.dali_script.specs.declared.stage.Stage.TheVariants.{Terminated, Probed, Unnamed, Hunted}
use Rattle.dali_script.specs.declared.stage.Stage.TheVariants.{Inconclusive, Withdrawn, Spelled}
use Rattle.dali_script.specs.Records.{Assignment, Has, HasRandom, Fits, MayAdd, IsLeastFree}
use Rattle.dali_script.specs.Records.{IsFull}
use Rattle.dali_script.specs.Scripts.{Lawful}
use Rattle.dali_script.specs.Findings.{assigned, MayEnrol, finding_of}
use Rattle.dali_script.specs.Stages.{stage_of}
use Rattle.dali_script.specs.declared.orders.Input.{Input}
use Rattle.dali_script.specs.declared.orders.Input.TheVariants as input
use Rattle.dali_script.specs.declared.orders.Order.{Order}
use Rattle.dali_script.specs.declared.orders.Order.TheVariants.{Put, Commit, Done, Halt}
use Rattle.dali_script.specs.declared.orders.End.{End}
use Rattle.dali_script.specs.declared.orders.End.TheVariants.{AllFound, BlockFull, GaveUp}
use Rattle.dali_script.specs.declared.orders.Fault.TheVariants as fault
use Rattle.dali_controller.specs.Machine.{Machine, machine_told, is_withheld}
use Rattle.dali_controller.specs.declared.purpose.Purpose.{Purpose}
use Rattle.dali_controller.specs.declared.purpose.Purpose.TheVariants.{Closing, Asking, Hunting}
use Rattle.dali_controller.specs.declared.purpose.Purpose.TheVariants.{Calling}
use Rattle.dali_controller.specs.declared.way.Way.{Way}
use Rattle.dali_controller.specs.declared.way.Way.TheVariants.{Fresh, Surveying}
use Rattle.dali_controller.specs.Course.{Course, closing_of, turn_of, address_for, least_open}
use Rattle.dali_controller.specs.Course.{call_turn, is_yes}
use Rattle.dali_controller.specs.Next.{course_by, next_course, beginning, question, BeginsWith}
use Rattle.dali_controller.specs.Next.{has_open, may_draw, asks_again, is_blocked, most_silent}
use Rattle.dali_search.specs.declared.step.Step.TheVariants.{Nobody}
use Rattle.dali_search.specs.Ascending.{leads_to, ascended}

-- WHAT AN ORDER DOES, to a machine that was told an input.

-- only a later frame goes on with the transaction
abbrev pub trace_by : Machine → Order → List Entry
trace_by t (Put p f) = if p == LATER then t.trace else []
trace_by t (Commit x) = []
trace_by t (Done e) = []
trace_by t (Halt w) = []

-- no silence is counted any more once gear are searched
abbrev pub asked_by : Bool → ℕ → ℕ
asked_by true n = 0
asked_by false n = n

-- with the course that the machine takes from then on
abbrev pub machine_ordered_on : Machine → Course → Order → Machine
machine_ordered_on t c o = record {
  id = t.id;
  kept = t.kept;
  trace = trace_by t o;
  finding = t.finding;
  last = Some o;
  tries = t.tries;
  silent = t.silent;
  course = c;
  heard = t.heard;
  asked = asked_by c.opened t.asked;
}

abbrev pub machine_ordered : Machine → Order → Machine
machine_ordered t o = machine_ordered_on t (course_by t o) o

-- WHICH ORDERS A SITE ALLOWS. A first frame at 3, or a later one that is lawful after the running
-- transaction, at 1.
abbrev pub MayOrderPut : Machine → ℕ → Forward → Type 0
MayOrderPut t p f =
    ((p ≡ FIRST) × Lawful t.kept.block t.kept.reserved [] f)
    ⊎ ((p ≡ LATER) × (t.trace ≡ [] → ⊥) × Lawful t.kept.block t.kept.reserved t.trace f)

-- An address is reserved for gear that has answered MASK under its number. Enrolled is what the
-- last finding lets be enrolled, and it is the one of the running transaction. Released is what is
-- reserved for a number that was just enrolled, with another address.
-- In a survey a finding is enrolled whether or not it is reserved so.
abbrev pub MayEnrolOn : Way → List Assignment → Finding → Assignment → Type 0
MayEnrolOn Fresh reserved x pair = MayEnrol reserved x pair
MayEnrolOn Surveying reserved x pair = pair ≡ assigned x

abbrev pub IsWarranted : Machine → Record → Type 0
IsWarranted t (Reserve a r) =
    (n : SearchAddress) × (stage_of t.trace ≡ Unnamed n) × (value_of n ≡ r)
IsWarranted t (Enrol b r) =
    (x : Finding) × (t.finding ≡ Some x) × (finding_of t.trace ≡ Some x)
    × MayEnrolOn t.course.way t.kept.reserved x (b, r)
IsWarranted t (Release a r) = (b : ℕ) × (t.last ≡ Some (Commit (Enrol b r))) × (b ≡ a → ⊥)

-- a record that fits and may be added
pub record MayCommit (t : Machine) (x : Record) : Type 0 where
  pub fits : Fits t.kept.block x
  pub may : MayAdd t.kept x
  pub warranted : IsWarranted t x

-- a frame that is put is an addressing command, and no direct arc power
abbrev pub IsAddressing : Order → Type 0
IsAddressing (Put p f) = (g : Forward) → command_of f ≡ Arc g → ⊥
IsAddressing (Commit x) = Unit {0}
IsAddressing (Done e) = Unit {0}
IsAddressing (Halt w) = Unit {0}

abbrev pub IsAllowed : Machine → Order → Type 0
IsAllowed t (Put p f) = MayOrderPut t p f
IsAllowed t (Commit x) = MayCommit t x
IsAllowed t (Done e) = Unit {0}
IsAllowed t (Halt w) = Unit {0}

-- GEAR TO WHICH NO ADDRESS CAN BE GIVEN: none is reserved for its number, and each of the block is
-- reserved. In a survey: what is reserved for its number is another's, or none is reserved for it
-- and none is open.
abbrev pub is_left_by : Machine → ℕ → Option ℕ → Option ℕ → Bool
is_left_by t r (Some a) free = is_withheld t a r
is_left_by t r None free = not (is_some free)

abbrev pub is_left : Machine → ℕ → Bool
is_left t r = is_left_by t r (address_for t.kept.reserved r) (least_open t.kept t.heard)

-- THE CAUSES OF AN END.

-- a close is begun with all-found only if the last COMPARE, under FFFFFE, was heard as silence,
-- after a start; in a survey if that of a roll call was, under FFFFFF, after another silent one
pub record IsSilentProbe (t : Machine) : Type 0 where
  pub number : SearchAddress
  pub stage : stage_of t.trace ≡ Probed number Silence
  pub last : value_of number ≡ 0xFFFFFE

pub record IsSilentCall (t : Machine) : Type 0 where
  pub number : SearchAddress
  pub left : ℕ
  pub stage : stage_of t.trace ≡ Hunted number (Some Silence) left
  pub calling : t.course.purpose ≡ Calling
  pub last : value_of number ≡ MASK24
  pub before : t.course.tally.is_silent ≡ true

abbrev pub AllAreFound : Machine → Way → Type 0
AllAreFound t Fresh = IsSilentProbe t
AllAreFound t Surveying = IsSilentCall t

-- In a hunt that found no gear, none is left: some gear never drew a random address.
pub record IsUndrawn (t : Machine) : Type 0 where
  pub number : SearchAddress
  pub heard : Answer
  pub left : ℕ
  pub stage : stage_of t.trace ≡ Hunted number (Some heard) left
  pub hunting : t.course.purpose ≡ Hunting
  pub nobody : leads_to (ascended t.course.ascent (is_yes heard)) ≡ Nobody
  pub none : (ascended t.course.ascent (is_yes heard)).found ≡ 0

-- no address can be given to gear that answered MASK, or none is open and some gear never drew
abbrev pub IsUngivable : Machine → Type 0
IsUngivable t =
    ((r : SearchAddress) × (stage_of t.trace ≡ Unnamed r) × (is_left t (value_of r) ≡ true)
    × (may_draw t ≡ false))
    ⊎ (IsUndrawn t × (has_open t ≡ false))

abbrev pub IsBlockFull : Machine → Way → Type 0
IsBlockFull t Fresh =
    (r : SearchAddress) × (stage_of t.trace ≡ Unnamed r)
    × ((HasRandom t.kept.reserved (value_of r) → ⊥) × IsFull t.kept.block t.kept.reserved)
IsBlockFull t Surveying = IsUngivable t × (asks_again t ≡ false)

-- Too many searches in a row led to no gear. In a survey as well: gear answered the fourth roll
-- call since a visit succeeded, some gear were passed over, and may draw no more; or some gear
-- never drew, may draw no more, and answered a roll call since they were to draw last.
pub record IsBlocked (t : Machine) : Type 0 where
  pub number : SearchAddress
  pub heard : Answer
  pub left : ℕ
  pub stage : stage_of t.trace ≡ Hunted number (Some heard) left
  pub calling : t.course.purpose ≡ Calling
  pub yes : is_yes heard ≡ true
  pub passed : is_blocked t.course.tally ≡ true
  pub spent : may_draw t ≡ false

abbrev pub IsStuck : Machine → Way → Type 0
IsStuck t Fresh = ⊥
IsStuck t Surveying =
    IsBlocked t
    ⊎ (IsUndrawn t × (nat_lt t.course.tally.draws 3 ≡ false)
    × (t.course.tally.is_heard ≡ true))

abbrev pub Cause : Machine → End → Type 0
Cause t AllFound = (t.course.opened ≡ true) × AllAreFound t t.course.way
Cause t BlockFull = IsBlockFull t t.course.way
Cause t GaveUp = (t.silent ≡ most_silent t.course.way) ⊎ IsStuck t t.course.way

-- the end with which a close runs, if one does
abbrev pub running_close : Machine → Option End
running_close t = closing_of t.course.purpose

-- no close is begun, the close that runs is begun again, or a close is begun that has a cause
abbrev pub IsBegun : Machine → Option End → Type 0
IsBegun t None = running_close t ≡ None
IsBegun t (Some e) = (running_close t ≡ Some e) ⊎ ((running_close t ≡ None) × Cause t e)

-- the table has one of the two for another
abbrev pub Contradicts : List Assignment → ℕ → ℕ → Type 0
Contradicts xs b r =
    ((n : ℕ) × Has xs (b, n) × (n ≡ r → ⊥)) ⊎ ((a : ℕ) × Has xs (a, r) × (a ≡ b → ⊥))

-- with the course that the machine takes from then on
abbrev pub IsCaused : Machine → Course → Order → Type 0
IsCaused t c (Put p f) =
    IsBegun t (closing_of c.purpose)
    × ((closing_of c.purpose ≡ None) ⊎ ((p ≡ FIRST) × (f ≡ frame_of Terminate)))
IsCaused t c (Commit x) = running_close t ≡ None
IsCaused t c (Done e) =
    ((e ≡ GaveUp) × (t.tries ≡ 8)) ⊎ ((running_close t ≡ Some e) × (stage_of t.trace ≡ Terminated))
IsCaused t c (Halt fault.Conflict) =
    (x : Finding) × (t.finding ≡ Some x) × (finding_of t.trace ≡ Some x)
    × Contradicts t.kept.enrolled (assigned x).0 (assigned x).1
IsCaused t c (Halt fault.Store) = ⊥

-- WHAT A VISIT LEADS TO.

-- Gear that answered MASK is programmed with the address that is reserved for its number; else the
-- least free address is reserved for it; else there is none, and a close is begun. No other record
-- is kept then.
abbrev pub AfterMask : Machine → Course → SearchAddress → Order → Type 0
AfterMask t c r (Put p f) =
    ((a : ℕ) × Has t.kept.reserved (a, value_of r) × (p ≡ LATER)
    × (f ≡ frame_of (Program (Some a)))) ⊎
    ((HasRandom t.kept.reserved (value_of r) → ⊥) × IsFull t.kept.block t.kept.reserved
    × (c.purpose ≡ Closing BlockFull))
AfterMask t c r (Commit (Reserve a n)) =
    (value_of r ≡ n) × (HasRandom t.kept.reserved n → ⊥)
    × IsLeastFree t.kept.block t.kept.reserved a
AfterMask t c r (Commit x) = ⊥
AfterMask t c r (Done e) = ⊥
AfterMask t c r (Halt w) = ⊥

-- In a survey: with the address that is reserved for it, unless that is another's; else the least
-- open address is reserved for it; else a transaction begins, which the table of moments names.
abbrev pub AfterReserved : Machine → ℕ → Bool → Order → Type 0
AfterReserved t a true o = o ≡ beginning (next_course t)
AfterReserved t a false o = o ≡ Put LATER (frame_of (Program (Some a)))

abbrev pub AfterMaskBy : Machine → SearchAddress → Option ℕ → Option ℕ → Order → Type 0
AfterMaskBy t r (Some a) free o = AfterReserved t a (is_withheld t a (value_of r)) o
AfterMaskBy t r None (Some a) o = o ≡ Commit (Reserve a (value_of r))
AfterMaskBy t r None None o = o ≡ beginning (next_course t)

abbrev pub AfterMaskSurveyed : Machine → SearchAddress → Order → Type 0
AfterMaskSurveyed t r o =
    AfterMaskBy t r (address_for t.kept.reserved (value_of r)) (least_open t.kept t.heard) o

abbrev pub AfterMaskOn : Way → Machine → Course → SearchAddress → Order → Type 0
AfterMaskOn Fresh t c r o = AfterMask t c r o
AfterMaskOn Surveying t c r o = AfterMaskSurveyed t r o

-- gear that was found is enrolled, unless the table has it or contradicts it
abbrev pub AfterFinding : Machine → ℕ → ℕ → Order → Type 0
AfterFinding t b n (Put p f) = Has t.kept.enrolled (b, n)
AfterFinding t b n (Commit x) = x ≡ Enrol b n
AfterFinding t b n (Done e) = ⊥
AfterFinding t b n (Halt w) = Contradicts t.kept.enrolled b n

-- once gear is enrolled, another address that is reserved for it is released, if one is
abbrev pub AfterEnrolled : Machine → ℕ → ℕ → Order → Type 0
AfterEnrolled t b n (Put p f) = (a : ℕ) → Has t.kept.reserved (a, n) → a ≡ b
AfterEnrolled t b n (Commit x) = (a : ℕ) × Has t.kept.reserved (a, n) × (x ≡ Release a n)
AfterEnrolled t b n (Done e) = ⊥
AfterEnrolled t b n (Halt w) = ⊥

-- What the transaction sends next, if it sends more; and what comes after the queries of a
-- random address that told the number which was visited, and after an enrolment. If the queries
-- told another number, or a gear that was programmed was not heard with its address, nothing is
-- enrolled and nothing contradicts: the next transaction begins.
--
-- In a survey each number that gear draw is enrolled so, whichever it is.
abbrev pub IsSought : Purpose → SearchAddress → ℕ → Type 0
IsSought (Asking a) r n = n < MASK24
IsSought _ r n = n ≡ value_of r

pub record IsFollowed (t : Machine) (o : Order) : Type 0 where
  pub sent : (c : Command) → turn_of t.course.purpose t.course.number (stage_of t.trace) ≡ Some c
      → o ≡ Put LATER (frame_of c)
  pub told : (b n : ℕ) → stage_of t.trace ≡ Spelled b (Some n)
      → IsSought t.course.purpose t.course.number n → AfterFinding t b n o
  pub another : (b n : ℕ) → stage_of t.trace ≡ Spelled b (Some n)
      → (IsSought t.course.purpose t.course.number n → ⊥) → o ≡ beginning (next_course t)
  pub unconfirmed : (r : SearchAddress) (other : Option ℕ) → stage_of t.trace ≡ Inconclusive r other
      → o ≡ beginning (next_course t)
  pub enrolled : (b n : ℕ) → t.last ≡ Some (Commit (Enrol b n)) → AfterEnrolled t b n o
  pub hunted : (r : SearchAddress) (h : Answer) (left : ℕ)
      → stage_of t.trace ≡ Hunted r (Some h) left → t.course.purpose ≡ Hunting
      → o ≡ question (next_course t) r left
  pub called : (r : SearchAddress) (h : Answer) (left : ℕ)
      → stage_of t.trace ≡ Hunted r (Some h) left → t.course.purpose ≡ Calling
      → call_turn (Some h) left ≡ None → o ≡ beginning (next_course t)

-- THE ORDERS of a machine that was told an input, and that takes a course from then on.
pub record IsOrderedTo (t : Machine) (c : Course) (o : Order) : Type 0 where
  pub allowed : IsAllowed t o
  pub addressing : IsAddressing o
  pub caused : IsCaused t c o
  pub given_up : t.tries ≡ 8 → o ≡ Done GaveUp
  pub silent : t.silent ≡ most_silent t.course.way → c.purpose ≡ Closing GaveUp
  pub unnamed : (r : SearchAddress) → stage_of t.trace ≡ Unnamed r
      → AfterMaskOn t.course.way t c r o
  pub found : (r : SearchAddress) (b : ℕ) → stage_of t.trace ≡ Withdrawn r b
      → AfterFinding t b (value_of r) o

-- it is the course of the table
abbrev pub IsOrdered : Machine → Order → Type 0
IsOrdered t o = IsOrderedTo t (course_by t o) o

-- the same for each input: if a record could not be kept, the machine halts
abbrev pub IsAnswered : Machine → Input → Order → Type 0
IsAnswered m input.CommitFailed o = o ≡ Halt fault.Store
IsAnswered m input.Start o = IsOrdered (machine_told m input.Start) o
IsAnswered m input.Survey o = IsOrdered (machine_told m input.Survey) o
IsAnswered m (input.Heard h) o = IsOrdered (machine_told m (input.Heard h)) o
IsAnswered m input.Destroyed o = IsOrdered (machine_told m input.Destroyed) o
IsAnswered m input.Lapsed o = IsOrdered (machine_told m input.Lapsed) o
IsAnswered m input.Committed o = IsOrdered (machine_told m input.Committed) o

abbrev pub IsFollowedAt : Machine → Input → Order → Type 0
IsFollowedAt m input.CommitFailed o = Unit {0}
IsFollowedAt m input.Start o = IsFollowed (machine_told m input.Start) o
IsFollowedAt m input.Survey o = IsFollowed (machine_told m input.Survey) o
IsFollowedAt m (input.Heard h) o = IsFollowed (machine_told m (input.Heard h)) o
IsFollowedAt m input.Destroyed o = IsFollowed (machine_told m input.Destroyed) o
IsFollowedAt m input.Lapsed o = IsFollowed (machine_told m input.Lapsed) o
IsFollowedAt m input.Committed o = IsFollowed (machine_told m input.Committed) o

-- THE STATE AFTER A STEP, by the state before it, the input and the order.
abbrev pub machine_after : Machine → Input → Order → Machine
machine_after m i o = machine_ordered (machine_told m i) o

-- WHAT A STEP GIVES: an order of the machine, a first frame only of the transaction that begins,
-- and what follows the transaction that runs.
pub record IsGiven (m : Machine) (i : Input) (o : Order) : Type 0 where
  pub answered : IsAnswered m i o
  pub begins : BeginsWith (machine_after m i o).course o
  pub followed : IsFollowedAt m i o
