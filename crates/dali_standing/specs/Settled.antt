use Rattle.std.specs.Prelude.{◌≡◌, ℕ, Bool, true, false, not, List, [], ◌∷◌, ◌++◌, length, filter}
use Rattle.std.specs.Prelude.{Option, Some, None, is_some, ◌==◌, ◌&&◌, if◌then◌else◌}
use Rattle.std.specs.List.{AllByRecursion}
use Rattle.dali_frame.specs.declared.frames.Forward.{Forward}
use Rattle.dali_frame.specs.declared.frames.Answer.{Answer}
use Rattle.dali_frame.specs.Priority.{FIRST, LATER}
use Rattle.dali_special.specs.Command.{command_of}
use Rattle.dali_arbiter.specs.declared.request.Request.{Request}
use Rattle.dali_arbiter.specs.Arbiter.{Arbiter, owns, request_of, offer_refusal}
use Rattle.dali_script.specs.declared.trace.Entry.{Entry}
use Rattle.dali_script.specs.declared.stage.Stage.{Stage}
use Rattle.dali_script.specs.Scripts.{Lawful, IsFirst}
use Rattle.dali_script.specs.Stages.{stage_of, may_follow, IsReached}
use Rattle.dali_script.specs.declared.orders.Input.{Input}
use Rattle.dali_script.specs.declared.orders.Input.TheVariants as input
use Rattle.dali_script.specs.declared.orders.Order.{Order}
use Rattle.dali_script.specs.declared.orders.Order.TheVariants.{Put, Commit, Done, Halt}
use Rattle.dali_script.specs.Due.{frame_put}
use Rattle.dali_controller.specs.Machine.{Machine}
use Rattle.dali_events.specs.World.{Controller}
use Rattle.dali_events.specs.Happens.{entry, is_arc}
use Rattle.dali_standing.specs.Seats.{Seat, trace_of, IsRunning}
use Rattle.dali_standing.specs.Standing.{Standing, Seated, seat_in, controller_on, machine_in}

-- HOW BUS AND CONTROLLERS GO TOGETHER on a site. It holds at each moment of a site: there each
-- frame that is sent was next. It isn't so in every run of the definitions.

-- ---------------------------------------------------------------- a controller and the bus

-- a controller that owns the bus: its frame waits, and follows the frames of its transaction; or it
-- was told what was heard after its last one, and more may follow
abbrev pub IsOwning : List Entry → Controller → Machine → Option Order → Option Input → Type 0
IsOwning t k m (Some (Put p f)) None =
    (p ≡ LATER) × (t ≡ m.trace) × Lawful k.records.block k.records.reserved t f
    × (is_arc (command_of f) ≡ false)
IsOwning t k m (Some (Put p f)) (Some (input.Heard h)) = t ≡ m.trace ++ entry f h ∷ []
IsOwning t k m (Some (Put p f)) (Some input.Start) = ⊥
IsOwning t k m (Some (Put p f)) (Some input.Survey) = ⊥
IsOwning t k m (Some (Put p f)) (Some input.Destroyed) = ⊥
IsOwning t k m (Some (Put p f)) (Some input.Lapsed) = ⊥
IsOwning t k m (Some (Put p f)) (Some input.Committed) = ⊥
IsOwning t k m (Some (Put p f)) (Some input.CommitFailed) = ⊥
IsOwning t k m (Some (Commit x)) told = ⊥
IsOwning t k m (Some (Done e)) told = ⊥
IsOwning t k m (Some (Halt why)) told = ⊥
IsOwning t k m None told = ⊥

-- a controller that does not: its frame waits, and is a first one; or it was told what was heard
-- after its last one, and none may follow; or nothing runs
abbrev pub IsOver : Controller → Machine → Forward → Input → Type 0
IsOver k m f (input.Heard h) =
    may_follow k.records.block k.records.reserved (stage_of (m.trace ++ entry f h ∷ [])) ≡ false
IsOver k m f input.Start = Unit {0}
IsOver k m f input.Survey = Unit {0}
IsOver k m f input.Destroyed = Unit {0}
IsOver k m f input.Lapsed = Unit {0}
IsOver k m f input.Committed = Unit {0}
IsOver k m f input.CommitFailed = Unit {0}

abbrev pub IsApart : Controller → Machine → Option Order → Option Input → Type 0
IsApart k m None told = m.trace ≡ []
IsApart k m (Some (Put p f)) None = (p ≡ FIRST) × (m.trace ≡ []) × IsFirst f
IsApart k m (Some (Put p f)) (Some i) = IsOver k m f i
IsApart k m (Some (Commit x)) told = m.trace ≡ []
IsApart k m (Some (Done e)) told = Unit {0}
IsApart k m (Some (Halt why)) told = Unit {0}

abbrev pub IsPlacedBy : Bool → List Entry → Controller → Option Machine → Type 0
IsPlacedBy owning t k None = (owning ≡ false) × (k.last ≡ None)
IsPlacedBy true t k (Some m) = IsOwning t k m k.last k.told
IsPlacedBy false t k (Some m) = IsApart k m k.last k.told

abbrev pub IsPlaced : Bool → List Entry → Seat → Type 0
IsPlaced owning t p = IsPlacedBy owning t p.controller p.machine

-- ---------------------------------------------------------------- the requests that wait

-- a request of controller c, other than for arc power
abbrev pub is_scripted : ℕ → Request → Bool
is_scripted c r = (r.sender == c) && not (is_arc (command_of r.frame))

-- the requests of some lists that pass a test
abbrev pub picked_requests : (Request → Bool) → List (List Request) → List Request
picked_requests test [] = []
picked_requests test (l ∷ lists) = filter test l ++ picked_requests test lists

-- the request that waits for a controller: that of its last order, until it is told of it
abbrev pub awaited_requests_by : ℕ → Option Input → Option Order → List Request
awaited_requests_by c None (Some (Put p f)) = request_of c p f ∷ []
awaited_requests_by c None (Some (Commit x)) = []
awaited_requests_by c None (Some (Done e)) = []
awaited_requests_by c None (Some (Halt why)) = []
awaited_requests_by c None None = []
awaited_requests_by c (Some i) last = []

abbrev pub awaited_requests : ℕ → Controller → List Request
awaited_requests c k = awaited_requests_by c k.told k.last

-- list 1: what the owner waits for
abbrev pub owners_request : Option ℕ → (ℕ → Seat) → List Request
owners_request None place = []
owners_request (Some c) place = awaited_requests c (place c).controller

abbrev pub IsServed : List (List Request) → Option ℕ → (ℕ → Seat) → Type 0
IsServed [] owner place = ⊥
IsServed (first ∷ rest) owner place = (first ≡ owners_request owner place)
    × ((c : ℕ) → picked_requests (is_scripted c) rest
    ≡ (if owns owner c then [] else awaited_requests c (place c).controller))

-- the senders of all requests are up
abbrev pub AreUp : List (List Request) → (ℕ → Seat) → Type 0
AreUp lists place =
    AllByRecursion (λ l. AllByRecursion (λ r. (place r.sender).controller.up ≡ true) l) lists

-- THE PLACES AND THE BUS: `place` is the place of each controller, and an empty one past the last.
pub record IsSettled (bus : Arbiter) (trace : List Entry) (place : ℕ → Seat) : Type 0 where
  pub five : length bus.lists ≡ 5
  pub running : (c : ℕ) → (place c).controller.up ≡ is_some (place c).machine
  pub places : (c : ℕ) → IsPlaced (owns bus.owner c) trace (place c)
  pub served : IsServed bus.lists bus.owner place
  pub up : AreUp bus.lists place

-- the sender of a scripted frame waits for it, and its transaction runs with it
abbrev pub IsHearing : Seat → Forward → Answer → Stage → Type 0
IsHearing p f h reached = is_arc (command_of f) ≡ false
    → (frame_put p.controller.last ≡ Some f) × (p.controller.told ≡ None)
    × IsReached reached (trace_of p.machine ++ entry f h ∷ [])

-- what is ordered on the bus is not refused
abbrev pub IsAccepted : Arbiter → ℕ → Order → Type 0
IsAccepted b c (Put p f) = offer_refusal b (request_of c p f) ≡ None
IsAccepted b c (Commit x) = Unit {0}
IsAccepted b c (Done e) = Unit {0}
IsAccepted b c (Halt why) = Unit {0}

abbrev pub Settled : Seated → Type 0
Settled s = IsSettled s.bus s.trace (seat_in s.seats)

-- what is known of a controller with a machine, of what stands
abbrev pub IsPlacedOn : Standing → ℕ → Type 0
IsPlacedOn s c = (m : Machine) → machine_in s.machines c ≡ Some m
    → IsRunning (controller_on s c) m
    × IsPlacedBy (owns s.bus.owner c) s.trace (controller_on s c) (Some m)

-- A scripted frame that is sent is what its sender ordered last, and goes on with the frames of its
-- machine.
abbrev pub FollowsItsMachine : Standing → Request → Type 0
FollowsItsMachine s r = is_arc (command_of r.frame) ≡ false
    → (frame_put (controller_on s r.sender).last ≡ Some r.frame)
    × ((m : Machine) → machine_in s.machines r.sender ≡ Some m
    → (if owns s.bus.owner r.sender then s.trace else []) ≡ m.trace)
