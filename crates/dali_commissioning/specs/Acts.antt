use Rattle.std.specs.Prelude.{◌≡◌, ◌⊎◌, ℕ, false, true, List, [], ◌∷◌, ◌++◌, length, Option, Some}
use Rattle.std.specs.Prelude.{None}
use Rattle.std.specs.Io.KnownBytes.{Appends, Consumes}
use Rattle.dali_script.specs.declared.block.Block.{Block}
use Rattle.dali_script.specs.declared.records.Record.{Record}
use Rattle.dali_script.specs.declared.orders.Input.{Input}
use Rattle.dali_script.specs.declared.orders.Input.TheVariants.{Start}
use Rattle.dali_script.specs.declared.orders.Order.{Order}
use Rattle.dali_script.specs.declared.orders.Order.TheVariants.{Put, Commit, Done, Halt}
use Rattle.dali_script.specs.Due.{record_ordered}
use Rattle.dali_script.specs.Records.{Kept}
use Rattle.dali_reserve.specs.Store.{IsReplay}
use Rattle.dali_statement.specs.Own.{Own, Act, Puts, Loses, Begins, Keeps, AreOwn}
use Rattle.dali_controller.specs.Acts.{Steps, acts_of}
use Rattle.dali_controller.specs.Machine.{Machine, at_first}
use Rattle.dali_commissioning.specs.Drivers.{Talk, IsPutInPart}
use Rattle.dali_commissioning.specs.Steps.{Step, written_by, HaveRead, order_line, open_after}
use Rattle.dali_commissioning.specs.Steps.{AreSteps, first_told, last_order}
use Rattle.dali_commissioning.specs.declared.fault.CommissionFault.{CommissionFault}
use Rattle.dali_commissioning.specs.declared.fault.CommissionFault.TheVariants as fault
use Rattle.dali_commissioning.specs.Conducted.{Commits, Stays}
use Rattle.dali_commissioning.specs.Done.{AreDone}
use Rattle.dali_commissioning.specs.Runs.{Run, AreRuns, IsRead}
use Rattle.dali_commissioning.specs.Census.{AreCounted, is_addressed}
use Rattle.dali_commissioning.specs.declared.census.Reply.{Reply}

-- WHAT IS CONDUCTED, as acts of a program on the page of `dali_statement`.

-- the steps of a machine, the first one first
abbrev pub in_order : List Step → Steps
in_order [] = []
in_order (s ∷ before) = in_order before ++ (s.told, s.order) ∷ []

-- what it put, what it was told of that, and the records that it was told to be kept, in their
-- order
abbrev pub acts_by : List Step → List Act
acts_by steps = acts_of None (in_order steps)

-- what an order that is not done yet may come to: a frame, even if it is destroyed, or a record
abbrev pub outstanding : Option Order → List Act
outstanding (Some (Put p f)) = Loses f ∷ []
outstanding (Some (Commit x)) = Keeps x ∷ []
outstanding (Some (Done e)) = []
outstanding (Some (Halt w)) = []
outstanding None = []

-- the records that acts keep
abbrev pub records_of : List Act → List Record
records_of [] = []
records_of (Keeps x ∷ acts) = x ∷ records_of acts
records_of (Puts f h ∷ acts) = records_of acts
records_of (Loses f ∷ acts) = records_of acts
records_of (Begins ∷ acts) = records_of acts

-- a sender that begins with these records
abbrev pub sender_of : Kept → Own
sender_of k = record { kept = k; trace = []; told = [] }

-- WHAT WAS DONE KEEPS THE RULES, from one moment of a store and of a talk to another. These are
-- the steps: the lines of their frames were written, what they were told was read, and the store
-- has committed their records. To a sender that began with the records `k` each frame was lawful
-- by those that were committed before, and each record was one that it may add.
pub record KeepsRules {S : Type 0} (is_up is_sound : S → Type 0)
    (holds : S → List Record → Type 0) (was keep : S) (k : Kept) (x y : Talk) : Type 0 where
  pub steps : List Step
  pub wrote : Appends x.written y.written (written_by steps)
  pub bytes : List ℕ
  pub read : Consumes x.left y.left bytes
  pub told : HaveRead steps bytes
  pub commits : Commits is_up is_sound holds was keep (records_of (acts_by steps))
  pub own : AreOwn (sender_of k) (acts_by steps)

-- ---------------------------------------------------------------- if it is left before its end

-- what was written of the order at which a fault came: its line, or a part of it
abbrev pub HasWritten : CommissionFault → Talk → Talk → List ℕ → Type 0
HasWritten (fault.Driver f) x y text = IsPutInPart f x y text
HasWritten (fault.Store e) x y text = Appends x.written y.written []
HasWritten fault.StepsSpent x y text = Appends x.written y.written []
HasWritten fault.QuestionLost x y text = ⊥
HasWritten fault.RunsSpent x y text = ⊥

-- a store that has what it had, and then these records, and maybe this one
abbrev pub IsLast : Option Record → List Record → Type 0
IsLast last more = (more ≡ []) ⊎ ((x : Record) × (last ≡ Some x) × (more ≡ x ∷ []))

abbrev pub MayCommitLast : {S : Type 0} (is_up is_sound : S → Type 0)
    (holds : S → List Record → Type 0) → S → S → List Record → Option Record → Type 0
MayCommitLast is_up is_sound holds old new records last =
    is_sound old → is_up new → (xs : List Record) → holds old xs
    → (more : List Record) × IsLast last more × holds new (xs ++ (records ++ more))

-- WHAT WAS LEFT KEEPS THE RULES. These are steps of a machine that began so: what was put is a
-- beginning of what it would have put. All orders but the last were done; that one is outstanding:
-- its line was written, or not, and the store has its record, or not. It might be done too.
pub record LeavesRules {S : Type 0} (is_up is_sound : S → Type 0)
    (holds : S → List Record → Type 0) (first : Input) (reason : CommissionFault) (was keep : S)
    (m : Machine) (x y : Talk) : Type 0 where
  pub steps : List Step
  pub machine : Machine
  pub taken : AreSteps m steps machine
  pub started : first_told steps ≡ Some first
  pub at : Talk
  pub wrote : Appends x.written at.written (written_by steps)
  pub bytes : List ℕ
  pub read : Consumes x.left at.left bytes
  pub told : HaveRead steps bytes
  pub done : AreDone (acts_by steps) x at
  pub begun : HasWritten reason at y (order_line (open_after steps) (last_order steps))
  pub commits : MayCommitLast is_up is_sound holds was keep (records_of (acts_by steps))
      (record_ordered (last_order steps))
  pub own : AreOwn (sender_of m.kept) (acts_by steps ++ outstanding (last_order steps))

-- ---------------------------------------------------------------- run after run

-- the acts of runs, of which the last stands first: each begins anew
abbrev pub acts_of_runs : List Run → List Act
acts_of_runs [] = []
acts_of_runs (run ∷ before) = acts_of_runs before ++ (Begins ∷ acts_by run.steps)

-- RUNS KEEP THE RULES TOGETHER, as one sender. It begins with what its store has then, and the
-- store has committed the records of all these acts, in their order.
pub record RunsKeepRules {S : Type 0} (is_up is_sound : S → Type 0)
    (holds : S → List Record → Type 0) (block : Block) (first : Input) (was keep : S)
    (x y : Talk) : Type 0 where
  pub runs : List Run
  pub are : AreRuns is_up is_sound holds block first was keep x y runs
  pub commits : Commits is_up is_sound holds was keep (records_of (acts_of_runs runs))
  pub own : is_sound was → is_up keep → (xs : List Record) → holds was xs
      → (k : Kept) × IsReplay block xs k × AreOwn (sender_of k) (acts_of_runs runs)

-- A RUN THAT WAS LEFT, with its acts: its store could not be read, and nothing was done; or it
-- began with what its store had.
abbrev pub IsLeftRun : {S : Type 0} (is_up is_sound : S → Type 0)
    (holds : S → List Record → Type 0) → Block → Input → CommissionFault → S → S → Talk → Talk
    → List Act → Type 0
IsLeftRun is_up is_sound holds block first reason was keep x y acts =
    ((y ≡ x) × Commits is_up is_sound holds was keep [] × (acts ≡ []))
    ⊎ ((k : Kept)
    × (is_sound was → is_up keep → (xs : List Record) → holds was xs → IsReplay block xs k)
    × (left : LeavesRules is_up is_sound holds first reason was keep (at_first 0 k) x y)
    × (acts ≡ Begins ∷ (acts_by left.steps ++ outstanding (last_order left.steps))))

-- RUNS OF WHICH THE LAST WAS LEFT keep the rules together, as one sender.
pub record RunsLeaveRules {S : Type 0} (is_up is_sound : S → Type 0)
    (holds : S → List Record → Type 0) (block : Block) (first : Input)
    (reason : CommissionFault) (was keep : S) (x y : Talk) : Type 0 where
  pub runs : List Run
  pub acts : List Act
  pub mid : S
  pub at : Talk
  pub are : AreRuns is_up is_sound holds block first was mid x at runs
  pub last : IsLeftRun is_up is_sound holds block first reason mid keep at y acts
  pub stays : Stays is_up is_sound mid keep
  pub own : is_sound was → is_up keep → (xs : List Record) → holds was xs
      → (k : Kept) → IsReplay block xs k → AreOwn (sender_of k) (acts_of_runs runs ++ acts)

-- WHY A BEGINNING FAILED. After a census that heard nothing the runs were left; or the talk ended
-- by a fault, a question was lost, or the store could not be read, and nothing was put.
abbrev pub IsLeftBegun : {S : Type 0} (is_up is_sound : S → Type 0)
    (holds : S → List Record → Type 0) → Block → List Block → CommissionFault → S → S → Talk
    → Talk → Type 0
IsLeftBegun {S = S} is_up is_sound holds block others reason was keep x y =
    (k : Kept)
    × (mid : S)
    × (at : Talk)
    × (replies : List Reply)
    × IsRead is_up is_sound holds block was mid k
    × AreCounted k others 0 replies x at
    × (length replies ≡ 64)
    × (is_addressed replies ≡ false)
    × RunsLeaveRules is_up is_sound holds block Start reason mid keep at y

abbrev pub HasNotBegun : {S : Type 0} (is_up is_sound : S → Type 0)
    (holds : S → List Record → Type 0) → Block → List Block → CommissionFault → S → S → Talk
    → Talk → Type 0
HasNotBegun is_up is_sound holds block others (fault.Driver f) was keep x y = y.fault ≡ Some f
HasNotBegun is_up is_sound holds block others fault.QuestionLost was keep x y = y.lost ≡ true
HasNotBegun is_up is_sound holds block others (fault.Store e) was keep x y =
    (y ≡ x) ⊎ IsLeftBegun is_up is_sound holds block others (fault.Store e) was keep x y
HasNotBegun is_up is_sound holds block others fault.StepsSpent was keep x y =
    IsLeftBegun is_up is_sound holds block others fault.StepsSpent was keep x y
HasNotBegun is_up is_sound holds block others fault.RunsSpent was keep x y =
    IsLeftBegun is_up is_sound holds block others fault.RunsSpent was keep x y
