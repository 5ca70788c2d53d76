use Rattle.std.specs.Prelude.{◌≡◌, ◌≢◌, ◌⊎◌, ℕ, ◌<◌, ◌≤◌, Bool, true, false, List, [], length}
use Rattle.std.specs.Prelude.{Option, Some, None}
use Rattle.std.specs.List.{AllByRecursion}
use Rattle.dali_frame.specs.declared.frames.Forward.{Forward}
use Rattle.dali_frame.specs.declared.frames.Answer.{Answer}
use Rattle.dali_frame.specs.declared.frames.Answer.TheVariants.{Silence, Byte, Damaged}
use Rattle.dali_frame.specs.Random.{MASK24}
use Rattle.dali_frame.specs.Priority.{FIRST, LATER}
use Rattle.dali_special.specs.declared.command.Command.TheVariants.{Arc}
use Rattle.dali_special.specs.Command.{command_of}
use Rattle.dali_gear.specs.declared.gear_set.GearSet.{GearSet}
use Rattle.dali_gear.specs.declared.row.Reach.{Reach}
use Rattle.dali_gear.specs.declared.row.Reach.TheVariants.{Everyone, Only}
use Rattle.dali_gear.specs.Row.{draws_needed, answers_of}
use Rattle.dali_script.specs.declared.finding.Finding.{Finding}
use Rattle.dali_script.specs.declared.records.Record.{Record}
use Rattle.dali_script.specs.declared.records.Record.TheVariants.{Reserve, Enrol, Release}
use Rattle.dali_script.specs.Records.{InBlock, MayAdd}
use Rattle.dali_script.specs.Scripts.{Lawful, IsFirst}
use Rattle.dali_script.specs.Findings.{assigned}
use Rattle.dali_script.specs.declared.orders.Input.{Input}
use Rattle.dali_script.specs.declared.orders.Input.TheVariants as input
use Rattle.dali_script.specs.declared.orders.Order.{Order}
use Rattle.dali_script.specs.declared.orders.Order.TheVariants.{Put, Commit, Done, Halt}
use Rattle.dali_events.specs.declared.event.Event.{Event}
use Rattle.dali_events.specs.declared.event.Event.TheVariants as event
use Rattle.dali_events.specs.Foreign.{is_foreign}
use Rattle.dali_events.specs.World.{Controller, World, controller_at}
use Rattle.dali_events.specs.Happens.{controller_informed}

-- WHICH EVENTS ARE ALLOWED IN A WORLD. One section for each event, and at the end the table of
-- them.

-- HEARING: what may be heard of these backward frames to one forward frame. An answer may be lost
-- or damaged, and several may be heard as damaged; no answer is heard as another byte (a premise).
abbrev pub Hears : List ℕ → Answer → Type 0
Hears answers Silence = Unit {0}
Hears answers Damaged = Unit {0}
Hears answers (Byte v) = (answers ≢ []) × AllByRecursion (λ answer. answer ≡ v) answers

-- ---------------------------------------------------------------- who may do what

-- controller c is there, and is up
pub record IsUp (w : World) (c : ℕ) : Type 0 where
  pub known : c < length w.controllers
  pub up : (controller_at w c).up ≡ true

-- Controller c may send the frame: it owns the bus and the frame may follow its trace, or no
-- controller owns the bus and the frame may begin a transaction.
abbrev pub MaySend : World → ℕ → Forward → Type 0
MaySend w c f =
    ((w.bus.owner ≡ Some c)
    × Lawful (controller_at w c).records.block (controller_at w c).records.reserved w.trace f)
    ⊎ ((w.bus.owner ≡ None) × IsFirst f)

-- the numbers that the gear which the frame reaches will draw are there
abbrev pub HasDraws : World → Reach → Forward → Type 0
HasDraws w reach f = draws_needed reach (command_of f) 0 w.gear ≤ length w.left

abbrev pub IsArc : Forward → Type 0
IsArc f = command_of f ≡ Arc f

-- ---------------------------------------------------------------- a controller acts

-- its last order since it came up was a Commit
abbrev pub IsCommit : Option Order → Type 0
IsCommit (Some (Commit x)) = Unit {0}
IsCommit _ = ⊥

-- it acts on what it was told; or on the outcome of its Commit; a survey is a start
abbrev pub IsDue : Controller → Input → Type 0
IsDue k input.Start = k.told ≡ Some input.Start
IsDue k input.Survey = k.told ≡ Some input.Start
IsDue k (input.Heard h) = k.told ≡ Some (input.Heard h)
IsDue k input.Destroyed = k.told ≡ Some input.Destroyed
IsDue k input.Lapsed = k.told ≡ Some input.Lapsed
IsDue k input.Committed = IsCommit k.last
IsDue k input.CommitFailed = IsCommit k.last

-- A record that it may commit: an address of its block and a number, neither reserved by it; or
-- its last finding, with neither enrolled by it, whether or not it is reserved so. The number is
-- one that gear draw. Or the release of what it has reserved for the gear of its last finding,
-- which has another address.
abbrev pub MayCommit : Controller → Record → Type 0
MayCommit k (Reserve a r) =
    InBlock k.records.block a × (r < MASK24) × MayAdd k.records (Reserve a r)
MayCommit k (Enrol b r) =
    ((x : Finding) × (k.finding ≡ Some x) × (assigned x ≡ (b, r))) × (r < MASK24)
    × MayAdd k.records (Enrol b r)
MayCommit k (Release a r) =
    MayAdd k.records (Release a r)
    × ((x : Finding) × (k.finding ≡ Some x) × (b : ℕ) × (assigned x ≡ (b, r)) × (b ≢ a))

-- a first frame at 3, and at 1 what may follow; Done and Halt always
abbrev pub MayPut : World → ℕ → Controller → ℕ → Forward → Type 0
MayPut w c k p f =
    ((p ≡ FIRST) × IsFirst f)
    ⊎ ((p ≡ LATER) × (w.bus.owner ≡ Some c) × Lawful k.records.block k.records.reserved w.trace f)

abbrev pub MayOrder : World → ℕ → Controller → Order → Type 0
MayOrder w c k (Put p f) = MayPut w c k p f
MayOrder w c k (Commit x) = (k.outstanding ≡ None) × MayCommit k x
MayOrder w c k (Done end) = Unit {0}
MayOrder w c k (Halt fault) = Unit {0}

pub record IsActed (w : World) (c : ℕ) (i : Input) (o : Order) : Type 0 where
  pub up : IsUp w c
  pub due : IsDue (controller_at w c) i
  -- as it is after the input
  pub order : MayOrder w c (controller_informed (controller_at w c) i) o

-- ---------------------------------------------------------------- frames

pub record IsSent (w : World) (c : ℕ) (f : Forward) (h : Answer) : Type 0 where
  pub up : IsUp w c
  pub may : MaySend w c f
  pub draws : HasDraws w Everyone f
  pub heard : Hears (answers_of Everyone (command_of f) 0 w.gear) h

pub record IsDestroyed (w : World) (c : ℕ) (f : Forward) (set : GearSet) : Type 0 where
  pub up : IsUp w c
  pub may : MaySend w c f
  pub draws : HasDraws w (Only set) f

pub record IsCollided (w : World) (c : ℕ) (f : Forward) (d : ℕ) (g : Forward) : Type 0 where
  pub free : w.bus.owner ≡ None
  pub apart : c ≢ d
  pub first_up : IsUp w c
  pub second_up : IsUp w d
  pub first : IsFirst f
  pub second : IsFirst g

-- ---------------------------------------------------------------- controllers

pub record IsDown (w : World) (c : ℕ) : Type 0 where
  pub known : c < length w.controllers
  pub down : (controller_at w c).up ≡ false

-- with the outstanding record only if one is outstanding
abbrev pub HasOutstanding : Controller → Bool → Type 0
HasOutstanding k false = Unit {0}
HasOutstanding k true = (x : Record) × (k.outstanding ≡ Some x)

-- ---------------------------------------------------------------- the table

abbrev pub Allowed : World → Event → Type 0
Allowed w (event.Acted c i o) = IsActed w c i o
Allowed w (event.Offered c f) = IsUp w c × IsArc f
Allowed w (event.Sent c f h) = IsSent w c f h
Allowed w (event.Destroyed c f set) = IsDestroyed w c f set
Allowed w (event.Collided c f d g) = IsCollided w c f d g
Allowed w event.Lapsed = Unit {0}
Allowed w event.Quiet = Unit {0}
Allowed w (event.Foreign f) = is_foreign f ≡ true
Allowed w (event.Power g on) = Unit {0}
Allowed w (event.Expired g) = Unit {0}
Allowed w (event.Down c) = IsUp w c
Allowed w (event.Up c kept) = IsDown w c × HasOutstanding (controller_at w c) kept
