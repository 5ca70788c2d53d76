use Rattle.std.specs.Prelude.{◌≡◌, ℕ, ◌<◌, ◌≤◌, ◌⊎◌, Bool, true, Option, Some, None}
use Rattle.std.specs.Prelude.{MatchOption}
use Rattle.dali_frame.specs.declared.numbers.SearchAddress.{SearchAddress}
use Rattle.dali_frame.specs.Random.{value_of, MASK24}
use Rattle.dali_frame.specs.Priority.{FIRST}
use Rattle.dali_special.specs.declared.command.Command.{Command}
use Rattle.dali_special.specs.Command.{frame_of}
use Rattle.dali_script.specs.declared.finding.Finding.{Finding}
use Rattle.dali_script.specs.declared.finding.Finding.TheVariants.{Queried, Resolved}
use Rattle.dali_script.specs.declared.records.Record.TheVariants.{Enrol}
use Rattle.dali_script.specs.declared.stage.Stage.{Stage}
use Rattle.dali_script.specs.declared.stage.Stage.TheVariants.{Free, Terminated}
use Rattle.dali_script.specs.declared.stage.Stage.TheVariants.{Opened, DrawBarred, PassedOver}
use Rattle.dali_script.specs.declared.stage.Stage.TheVariants.{HighAsked, MiddleAsked}
use Rattle.dali_script.specs.declared.stage.Stage.TheVariants.{Probed, Unnamed, Unanswered, Hunted}
use Rattle.dali_script.specs.declared.stage.Stage.TheVariants.{Inconclusive}
use Rattle.dali_script.specs.declared.stage.Stage.TheVariants.{Withdrawn}
use Rattle.dali_script.specs.declared.stage.Stage.TheVariants.{Spelled}
use Rattle.dali_script.specs.Records.{Kept, Has, HasRandom, IsFull, IsLeastFree}
use Rattle.dali_script.specs.Findings.{assigned, finding_of}
use Rattle.dali_script.specs.Stages.{stage_of}
use Rattle.dali_script.specs.declared.orders.Input.{Input}
use Rattle.dali_script.specs.declared.orders.Order.{Order}
use Rattle.dali_script.specs.declared.orders.Order.TheVariants.{Put, Commit}
use Rattle.dali_script.specs.declared.orders.End.{End}
use Rattle.dali_script.specs.declared.orders.End.TheVariants.{BlockFull}
use Rattle.dali_controller.specs.declared.purpose.Purpose.{Purpose}
use Rattle.dali_controller.specs.declared.purpose.Purpose.TheVariants.{Opening, Probing, Visiting}
use Rattle.dali_controller.specs.declared.purpose.Purpose.TheVariants.{Resolving, Closing}
use Rattle.dali_controller.specs.declared.purpose.Purpose.TheVariants.{Asking, Hunting, Calling}
use Rattle.dali_controller.specs.declared.purpose.Purpose.TheVariants.{Drawing, PassingOver}
use Rattle.dali_controller.specs.declared.way.Way.{Way}
use Rattle.dali_controller.specs.declared.way.Way.TheVariants.{Fresh, Surveying}
use Rattle.dali_controller.specs.Course.{Course, closing_of, first_of, least_open}
use Rattle.dali_controller.specs.Machine.{Machine}
use Rattle.dali_controller.specs.declared.shorts.Shorts.{Shorts}
use Rattle.dali_controller.specs.Next.{beginning, course_by, next_course, goes_on_to}
use Rattle.dali_controller.specs.Next.{most_silent, question}
use Rattle.dali_controller.specs.Next.{BeginsWith}
use Rattle.dali_controller.specs.Orders.{IsBegun, IsOrderedTo, machine_ordered_on, IsAnswered}
use Rattle.dali_controller.specs.Orders.{MayEnrolOn, is_left}
use Rattle.dali_controller.specs.Orders.{machine_after}
use Rattle.dali_controller.specs.Whole.{IsWhole, IsReady, IsWithinSilence, Knows, Sends}

-- What holds of a machine between its moments. Its public contract cites none of this.

-- what is known at a stage of the transaction that led there: its end, or that there is a command
-- to send
abbrev pub Arrived : Kept → SearchAddress → Purpose → Stage → Type 0
Arrived k n p Free = ⊥
Arrived k n p Terminated =
    ((c : Command) × Sends k n p Terminated c) ⊎ ((e : End) × (p ≡ Closing e))
Arrived k n p Opened = (p ≡ Opening) ⊎ (p ≡ Drawing)
Arrived k n p DrawBarred = p ≡ Drawing
Arrived k n p (HighAsked b None) =
    ((p ≡ Resolving b) × (b < 64)) ⊎ (p ≡ Asking b)
Arrived k n p (MiddleAsked b None) =
    ((p ≡ Resolving b) × (b < 64)) ⊎ (p ≡ Asking b)
Arrived k n p (Probed r h) = (p ≡ Probing) × (r ≡ n)
Arrived k n p (Hunted r (Some h) left) = ((p ≡ Hunting) ⊎ (p ≡ Calling)) × (r ≡ n)
Arrived k n p (Unnamed r) = (p ≡ Visiting) × (r ≡ n)
Arrived k n p (Unanswered r) = (p ≡ Visiting) × (r ≡ n)
Arrived k n p (Inconclusive r other) = (p ≡ Visiting) × (r ≡ n)
Arrived k n p (Withdrawn r b) = (p ≡ Visiting) × (r ≡ n)
Arrived k n p (PassedOver r) = p ≡ PassingOver
Arrived k n p (Spelled b number) = (p ≡ Resolving b) ⊎ (p ≡ Asking b)
Arrived k n p s = (c : Command) × Sends k n p s c

-- a search that led to no gear may just have reached it
abbrev pub CalmAt : Stage → Way → Purpose → Bool → ℕ → Type 0
CalmAt (Unanswered r) y p opened silent =
    (silent ≤ most_silent y) × (silent ≡ most_silent y → opened ≡ true)
CalmAt (Inconclusive r other) y p opened silent =
    (silent ≤ most_silent y) × (silent ≡ most_silent y → opened ≡ true)
CalmAt _ y p opened silent = IsWithinSilence y p silent

-- the gear that was withdrawn, or told its random address, is what was found
abbrev pub FoundAt : Stage → Option Finding → Type 0
FoundAt (Withdrawn r b) found = found ≡ Some (Queried b (value_of r))
FoundAt (Spelled b (Some n)) found = found ≡ Some (Resolved b n)
FoundAt _ found = Unit {0}

-- what holds if a frame was just heard
pub record IsHeard (w : Machine) (s : Stage) : Type 0 where
  pub stage : stage_of w.trace ≡ s
  pub tries : w.tries < 8
  pub arrived : Arrived w.kept w.course.number w.course.purpose s
  pub calm : CalmAt s w.course.way w.course.purpose w.course.opened w.silent
  pub knows : Knows w.course.way w.kept w.course.number w.course.search w.course.ascent
      w.course.opened w.course.purpose
  pub finding : FoundAt s w.finding
  pub trace_finding : FoundAt s (finding_of w.trace)

-- what holds if a transaction may end without a record and without a close
pub record IsBetween (w : Machine) : Type 0 where
  pub tries : w.tries < 8
  pub silent : w.silent < most_silent w.course.way
  pub going : closing_of w.course.purpose ≡ None
  pub unnamed : (r : SearchAddress) → stage_of w.trace ≡ Unnamed r → ⊥
  pub found : (r : SearchAddress) (b : ℕ) → stage_of w.trace ≡ Withdrawn r b
      → Has w.kept.enrolled (b, value_of r)

-- what holds if nothing can be given to gear that answered MASK, and if a transaction begins
-- then
abbrev pub IsUngiven : Way → Machine → SearchAddress → Type 0
IsUngiven Fresh w r =
    (HasRandom w.kept.reserved (value_of r) → ⊥) × IsFull w.kept.block w.kept.reserved
IsUngiven Surveying w r = is_left w (value_of r) ≡ true

abbrev pub IsNextTo : Way → Machine → Purpose → SearchAddress → Type 0
IsNextTo Fresh w p n = p ≡ Closing BlockFull
IsNextTo Surveying w p n =
    Put FIRST (frame_of (first_of p n)) ≡ beginning (next_course w)

-- what holds if a transaction begins, and the machine takes this course
pub record Begins (t : Machine) (c : Course) : Type 0 where
  pub tries : t.tries < 8
  pub way : c.way ≡ t.course.way
  pub calm : IsWithinSilence c.way c.purpose t.silent
  pub turns : IsBegun t (closing_of c.purpose)
  pub unnamed : (r : SearchAddress) → stage_of t.trace ≡ Unnamed r
      → IsUngiven t.course.way t r × IsNextTo t.course.way t c.purpose c.number
  pub found : (r : SearchAddress) (b : ℕ) → stage_of t.trace ≡ Withdrawn r b
      → Has t.kept.enrolled (b, value_of r)

-- what holds if a gear was found, and may be enrolled
pub record Settles (w : Machine) (b n : ℕ) : Type 0 where
  pub ready : IsReady w
  pub going : closing_of w.course.purpose ≡ None
  pub drawn : n < MASK24
  pub found : Finding
  pub is : assigned found ≡ (b, n)
  pub may : MayEnrolOn w.course.way w.kept.reserved found (b, n)
  pub finding : w.finding ≡ Some found
  pub trace_finding : finding_of w.trace ≡ Some found
  pub next : next_course w ≡ goes_on_to w
  pub unnamed : (r : SearchAddress) → stage_of w.trace ≡ Unnamed r → ⊥
  pub withdrawn : (r : SearchAddress) (c : ℕ) → stage_of w.trace ≡ Withdrawn r c
      → (c ≡ b) × (value_of r ≡ n)

-- what holds if an enrolment was just kept
pub record Enrolled (w : Machine) (b n : ℕ) : Type 0 where
  pub between : IsBetween w
  pub ready : IsReady w
  pub free : stage_of w.trace ≡ Free
  pub last : w.last ≡ Some (Commit (Enrol b n))

-- an order that a machine of which this is seen may give, and what is seen after it but its course
pub record IsNext (t : Machine) (o : Order) (new : Machine) : Type 0 where
  pub order : IsOrderedTo t new.course o
  pub state : new ≡ machine_ordered_on t new.course o

-- A MOMENT: what a machine that was told t orders, and the machine that has ordered it. A first
-- frame is that of the transaction that begins.
pub record IsMoment (t : Machine) (o : Order) (new : Machine) : Type 0 where
  pub begins : BeginsWith new.course o
  pub course : new.course ≡ course_by t o
  pub next : IsNext t o new
  pub whole : IsWhole new

-- A TRANSACTION BEGINS, and the machine takes this course: what its state is then, whatever it was
-- told. That it may begin is another fact.
pub record Begun (t : Machine) (c : Course) (o : Order) (new : Machine) : Type 0 where
  pub order : o ≡ beginning c
  pub state : new ≡ machine_ordered_on t c o
  pub knows : Knows c.way t.kept c.number c.search c.ascent c.opened c.purpose

pub record IsStep (m : Machine) (i : Input) (o : Order) (new : Machine) : Type 0 where
  pub order : IsAnswered m i o
  pub state : new ≡ machine_after m i o

-- the address that is reserved next, if there is one
abbrev pub IsFirstFree : Way → Kept → Shorts → Option ℕ → Type 0
IsFirstFree Fresh k heard o =
    MatchOption o (IsFull k.block k.reserved) (IsLeastFree k.block k.reserved)
IsFirstFree Surveying k heard o = o ≡ least_open k heard

-- the search that goes up asks its next question: in the transaction that runs, if that has room
pub record AsksNext (t : Machine) (c : Course) (sent : SearchAddress) (left : ℕ) (o : Order)
    (new : Machine) : Type 0 where
  pub order : o ≡ question c sent left
  pub state : new ≡ machine_ordered_on t c o
  pub knows : Knows c.way t.kept c.number c.search c.ascent c.opened c.purpose
