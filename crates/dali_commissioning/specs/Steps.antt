use Rattle.std.specs.Prelude.{◌≡◌, ℕ, List, [], ◌∷◌, ◌++◌, Bool, true, false, Option, Some, None}
use Rattle.std.specs.Prelude.{◌||◌}
use Rattle.dali_frame.specs.declared.frames.Forward.{Forward}
use Rattle.dali_script.specs.declared.records.Record.{Record}
use Rattle.dali_script.specs.declared.orders.Input.{Input}
use Rattle.dali_script.specs.declared.orders.Input.TheVariants.{Start, Survey, Heard}
use Rattle.dali_script.specs.declared.orders.Input.TheVariants.{Destroyed, Lapsed}
use Rattle.dali_script.specs.declared.orders.Input.TheVariants.{Committed, CommitFailed}
use Rattle.dali_script.specs.declared.orders.Order.{Order}
use Rattle.dali_script.specs.declared.orders.Order.TheVariants.{Put, Commit, Done, Halt}
use Rattle.dali_script.specs.Due.{due_after, accepts, record_ordered}
use Rattle.dali_controller.specs.Machine.{Machine}
use Rattle.dali_controller.specs.Orders.{IsAnswered, machine_after}
use Rattle.dali_script.specs.Sending.{half_of, opens}
use Rattle.dali_commissioning.specs.Lines.{put_text, told_of}

-- THE STEPS of a machine: what it was told, and what it ordered then. The last step stands first.
pub record Step : Type 0 where
  pub told : Input
  pub order : Order

-- a machine steps so
abbrev pub IsStep : Machine → Step → Machine → Type 0
IsStep m s n =
    (accepts (due_after m.last) s.told ≡ true)
    × IsAnswered m s.told s.order
    × (n ≡ machine_after m s.told s.order)

-- a machine takes these steps, to this one
abbrev pub AreSteps : Machine → List Step → Machine → Type 0
AreSteps m [] n = n ≡ m
AreSteps m (s ∷ before) n = (mid : Machine) × AreSteps m before mid × IsStep mid s n

-- what a machine was told first
abbrev pub earlier : Option Input → Input → Input
earlier (Some first) told = first
earlier None told = told

abbrev pub first_told : List Step → Option Input
first_told [] = None
first_told (s ∷ before) = Some (earlier (first_told before) s.told)

-- the last order
abbrev pub last_order : List Step → Option Order
last_order [] = None
last_order (s ∷ before) = Some s.order

-- ---------------------------------------------------------------- pairs

-- the first frame of a pair that waits behind the frame of an order, once it is heard
abbrev pub opened_by : Option Forward → Option Order → Option Forward
opened_by waiting (Some (Put p f)) = opens (half_of waiting f) f
opened_by waiting (Some (Commit x)) = None
opened_by waiting (Some (Done e)) = None
opened_by waiting (Some (Halt w)) = None
opened_by waiting None = None

-- a pair is broken if its first frame was not heard
abbrev pub if_heard : Input → Option Forward → Option Forward
if_heard (Heard h) waiting = waiting
if_heard Start waiting = None
if_heard Survey waiting = None
if_heard Destroyed waiting = None
if_heard Lapsed waiting = None
if_heard Committed waiting = None
if_heard CommitFailed waiting = None

-- the first frame of a pair that waits when the last order is done
abbrev pub open_after : List Step → Option Forward
open_after [] = None
open_after (s ∷ before) = if_heard s.told (opened_by (open_after before) (last_order before))

-- ---------------------------------------------------------------- lines and records

-- the line of an order, if it puts a frame
abbrev pub order_line : Option Forward → Option Order → List ℕ
order_line waiting (Some (Put p f)) = put_text p f (half_of waiting f)
order_line waiting (Some (Commit x)) = []
order_line waiting (Some (Done e)) = []
order_line waiting (Some (Halt w)) = []
order_line waiting None = []

-- the lines of all orders but the last
abbrev pub written_by : List Step → List ℕ
written_by [] = []
written_by (s ∷ before) = written_by before ++ order_line (open_after before) (last_order before)

abbrev pub IsLineOf : Input → List ℕ → Type 0
IsLineOf told bytes = (line : List ℕ) × (bytes ≡ line ++ 10 ∷ []) × (told_of line ≡ Some told)

-- these bytes are the line that tells this; nothing, if it is not of the bus
abbrev pub AreTold : Input → List ℕ → Type 0
AreTold Start bytes = bytes ≡ []
AreTold Survey bytes = bytes ≡ []
AreTold Committed bytes = bytes ≡ []
AreTold CommitFailed bytes = bytes ≡ []
AreTold (Heard h) bytes = IsLineOf (Heard h) bytes
AreTold Destroyed bytes = IsLineOf Destroyed bytes
AreTold Lapsed bytes = IsLineOf Lapsed bytes

-- these bytes are the lines by which the steps were told
abbrev pub HaveRead : List Step → List ℕ → Type 0
HaveRead [] bytes = bytes ≡ []
HaveRead (s ∷ before) bytes =
    (first : List ℕ)
    × (last : List ℕ)
    × (bytes ≡ first ++ last)
    × HaveRead before first
    × AreTold s.told last

-- the records that the steps were told to be kept, oldest first
abbrev pub record_told : Input → Option Record → List Record
record_told Committed (Some x) = x ∷ []
record_told Committed None = []
record_told Start ordered = []
record_told Survey ordered = []
record_told (Heard h) ordered = []
record_told Destroyed ordered = []
record_told Lapsed ordered = []
record_told CommitFailed ordered = []

abbrev pub committed_by : List Step → List Record
committed_by [] = []
committed_by (s ∷ before) =
    committed_by before ++ record_told s.told (record_ordered (last_order before))

-- whether a step was told that a record is kept
abbrev pub is_kept : Input → Bool
is_kept Committed = true
is_kept _ = false

abbrev pub has_committed : List Step → Bool
has_committed [] = false
has_committed (s ∷ before) = has_committed before || is_kept s.told
