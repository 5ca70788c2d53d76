use Rattle.std.specs.Prelude.{◌≡◌, ℕ, ◌<◌, true, List, [], ◌∷◌, ◌++◌, length, Option, Some, None}
use Rattle.std.specs.List.{AllByRecursion}
use Rattle.dali_frame.specs.declared.frames.Answer.{Answer}
use Rattle.dali_frame.specs.declared.frames.Answer.TheVariants.{Silence}
use Rattle.dali_frame.specs.declared.numbers.SearchAddress.{SearchAddress}
use Rattle.dali_frame.specs.Random.{value_of, MASK24}
use Rattle.dali_special.specs.declared.command.Target.TheVariants.{Unaddressed}
use Rattle.dali_special.specs.declared.command.Command.TheVariants.{Terminate, Initialise}
use Rattle.dali_special.specs.declared.command.Command.TheVariants.{Compare, SearchHigh}
use Rattle.dali_special.specs.declared.command.Command.TheVariants.{SearchMiddle, SearchLow}
use Rattle.dali_special.specs.Command.{command_of}
use Rattle.dali_gear.specs.Gear.{answer, YES}
use Rattle.dali_script.specs.declared.trace.Entry.{Entry}
use Rattle.dali_script.specs.declared.stage.Stage.TheVariants.{Terminated, InitialisedOnce, Hunted}
use Rattle.dali_script.specs.Scripts.{Step, sends, woken, nobody}
use Rattle.dali_script.specs.Stages.{stage_of}
use Rattle.dali_script.specs.declared.orders.Order.{Order}
use Rattle.dali_script.specs.declared.orders.Order.TheVariants.{Put, Commit, Done, Halt}
use Rattle.dali_events.specs.declared.event.Event.{Event}
use Rattle.dali_events.specs.declared.event.Event.TheVariants as event
use Rattle.dali_events.specs.Plan.{Plan}
use Rattle.dali_events.specs.World.{World, gear_at}
use Rattle.dali_events.specs.Happens.{happens, trace_running}
use Rattle.dali_events.specs.Runs.{after, IsRun}
use Rattle.dali_events.specs.Searching.{sent_event}

-- WHAT A ROLL CALL SAYS, GEAR BY GEAR. Nothing is supposed of other controllers, of other gear, or
-- of what happened before.

-- a transaction of controller c runs
pub record Runs (w : World) (c : ℕ) : Type 0 where
  pub owner : w.bus.owner ≡ Some c
  pub begun : w.trace ≡ [] → ⊥

-- and goes on through all these events
abbrev pub RunsOn : World → ℕ → List Event → Type 0
RunsOn w c [] = Runs w c
RunsOn w c (e ∷ es) = Runs w c × RunsOn (happens w e) c es

-- no power of gear g comes or goes, its initialisation doesn't run out, and between the two
-- INITIALISE the bus isn't quiet, and no frame of another device comes
abbrev pub Keeps : ℕ → World → Event → Type 0
Keeps g w event.Quiet = stage_of w.trace ≡ InitialisedOnce → ⊥
Keeps g w (event.Foreign f) = stage_of w.trace ≡ InitialisedOnce → ⊥
Keeps g w (event.Power h on) = h ≡ g → ⊥
Keeps g w (event.Expired h) = h ≡ g → ⊥
Keeps g w _ = Unit {0}

abbrev pub KeepsOn : ℕ → World → List Event → Type 0
KeepsOn g w [] = Unit {0}
KeepsOn g w (e ∷ es) = Keeps g w e × KeepsOn g (happens w e) es

-- A ROLL CALL: controller c initialises gear from `first` on, the first INITIALISE, and in the same
-- transaction asks with `compare` who is at most FFFFFF.
pub record Calls (p : Plan) (capacity : ℕ) (front : List Event) (c : ℕ) (first : Entry)
    (es : List Event) (compare : Entry) : Type 0 where
  pub run : IsRun p capacity (front ++ sent_event c first ∷ (es ++ sent_event c compare ∷ []))
  pub begun : stage_of (trace_running (after p capacity front) c) ≡ Terminated
  pub initialises : command_of first.frame ≡ Initialise Unaddressed
  pub runs : RunsOn (after p capacity (front ++ sent_event c first ∷ [])) c es
  pub all : (r : SearchAddress) × (last : Option Answer) × (left : ℕ)
      × (stage_of (after p capacity (front ++ sent_event c first ∷ es)).trace ≡ Hunted r last left)
      × (value_of r ≡ MASK24)
  pub compares : command_of compare.frame ≡ Compare

-- Gear g is there, had power at the first INITIALISE, and kept it until the COMPARE.
pub record Attends (p : Plan) (capacity : ℕ) (front : List Event) (c : ℕ) (first : Entry)
    (es : List Event) (g : ℕ) : Type 0 where
  pub there : g < length (after p capacity (front ++ sent_event c first ∷ es)).gear
  pub powered : (gear_at (after p capacity front) g).powered ≡ true
  pub keeps : KeepsOn g (after p capacity (front ++ sent_event c first ∷ [])) es

-- it has a short address, or answers
abbrev pub IsCalled : World → ℕ → Type 0
IsCalled w g = (gear_at w g).short ≡ None → answer Compare (gear_at w g) ≡ Some YES

-- each gear that attends does, when the COMPARE is sent
abbrev pub AreCalled : Plan → ℕ → List Event → ℕ → Entry → List Event → Type 0
AreCalled p capacity front c first es =
    (g : ℕ) → Attends p capacity front c first es g
    → IsCalled (after p capacity (front ++ sent_event c first ∷ es)) g

-- an order that closes: TERMINATE is put, or nothing more comes
abbrev pub IsClosing : Order → Type 0
IsClosing (Put p f) = command_of f ≡ Terminate
IsClosing (Commit x) = ⊥
IsClosing (Done e) = Unit {0}
IsClosing (Halt why) = Unit {0}

-- an event in which controller c, if it is its own, gives such an order; and stays up
abbrev pub Orders : (Order → Type 0) → ℕ → Event → Type 0
Orders P c (event.Acted d i o) = d ≡ c → P o
Orders P c (event.Down d) = d ≡ c → ⊥
Orders P c _ = Unit {0}

-- THE ROLL WAS CALLED, AND NO GEAR WAS HEARD: in a log stands a roll call of controller c, with two
-- COMPAREs that were heard as silence. Since then c stayed up, and gave such orders alone. Each
-- gear that attends had a short address when a COMPARE was sent, or answered it: then its answer
-- was lost.
pub record HasCalled (p : Plan) (capacity : ℕ) (P : Order → Type 0) (log : List Event)
    (c : ℕ) : Type 0 where
  pub front : List Event
  pub first : Entry
  pub es : List Event
  pub compare : Entry
  pub fs : List Event
  pub again : Entry
  pub rest : List Event
  pub stands : log ≡ front ++ sent_event c first ∷ (es ++ sent_event c compare
      ∷ (fs ++ sent_event c again ∷ rest))
  pub silent : compare.heard ≡ Silence
  pub silent_again : again.heard ≡ Silence
  pub since : AllByRecursion (Orders P c) rest
  pub calls : Calls p capacity front c first es compare
  pub calls_again : Calls p capacity front c first (es ++ sent_event c compare ∷ fs) again
  pub called : AreCalled p capacity front c first es
  pub called_again : AreCalled p capacity front c first (es ++ sent_event c compare ∷ fs)

-- two roll calls, one after the other; between the two c stayed up
pub record HasCalledTwice (p : Plan) (capacity : ℕ) (P : Order → Type 0) (log : List Event)
    (c : ℕ) : Type 0 where
  pub last : HasCalled p capacity P log c
  pub before : HasCalled p capacity (λ o. Unit {0}) last.front c

-- the frames of such a roll call under a search address
abbrev pub roll_call : SearchAddress → List Step
roll_call r =
    woken (sends (SearchHigh r.high) ∷ sends (SearchLow r.low) ∷ sends (SearchMiddle r.middle)
    ∷ record { command = Compare; wanted = nobody } ∷ sends Compare ∷ [])
