use Rattle.std.specs.Prelude.{◌≡◌, ℕ, ◌+◌, ◌-◌, ◌<◌, ◌≤◌, Bool, true, false, not, ◌&&◌, is_some}
use Rattle.std.specs.Prelude.{if◌then◌else◌, List, [], ◌∷◌, ◌++◌, map, slice_get, Option}
use Rattle.std.specs.Prelude.{Some, None}
use Rattle.std.specs.List.{list_all}
use Rattle.dali_frame.specs.declared.frames.Forward.{Forward as Bits}
use Rattle.dali_special.specs.Command.{command_of}
use Rattle.dali_wire.specs.declared.receiver.Reading.TheVariants.{Idle}
use Rattle.dali_wire.specs.declared.receiver.Frame.{Frame}
use Rattle.dali_wire.specs.declared.receiver.Frame.TheVariants.{Forward, Backward, Device, Damaged}
use Rattle.dali_wire.specs.declared.receiver.Receiver.{Receiver}
use Rattle.dali_port.specs.declared.orders.Order.{Order}
use Rattle.dali_port.specs.declared.orders.Word.{Word}
use Rattle.dali_port.specs.declared.orders.Word.TheVariants.{Heard as Told, Destroyed as Lost}
use Rattle.dali_port.specs.declared.orders.Word.TheVariants.{Lapsed}
use Rattle.dali_port.specs.State.{Port}
use Rattle.dali_port.specs.Times.{break_time}
use Rattle.dali_port.specs.Runs.{Call}
use Rattle.dali_bus_laws.specs.Table.{table}
use Rattle.dali_bus_laws.specs.Bus.{Edges, SeesFrom, first_read}
use Rattle.dali_bus_laws.specs.Pins.{edges_in, spaced, InOrder, HasBegun, RestedFor}
use Rattle.dali_bus_laws.specs.Breaks.{IsDestroyed, last_time, IsHeld, Alternate}
use Rattle.dali_bus_laws.specs.Words.{first_word, IsCalled}
use Rattle.dali_statement.specs.Page.{Command, Heard, Gear, takes, may_miss, hears}
use Rattle.dali_statement.specs.Page.{Moment, Sent, Destroyed}
use Rattle.dali_statement.specs.Gear.{command_seen}
use Rattle.dali_statement.specs.Scripts.{heard_seen}

-- A FRAME AT THE PINS: those who send it over ports, and the gear that read it. All of them stand
-- on one bus, and its first edge is the frame's.

abbrev pub shown : Bits → Command
shown f = command_seen (command_of f)

-- A CONTROLLER PUTS A FRAME: its port begins it, sees each edge of the bus, and tells this word as
-- the first one of its calls from then on. If it breaks the frame off, the bus is low until it lets
-- go.
pub record Put (bus : Edges) : Type 0 where
  pub who : ℕ
  pub port : Port
  pub order : Order
  pub calls : List Call
  pub word : Word
  pub begun : HasBegun port order
  pub tells : first_word port calls ≡ Some word
  pub called : IsCalled table port calls
  pub in_order : InOrder port.called calls
  pub sees : SeesFrom table bus (spaced port.called (edges_in calls))
  pub rested : RestedFor table bus (port.called - port.edge)
  pub held : (some more : List Call) → calls ≡ some ++ more → IsDestroyed table port some
      → IsHeld false (last_time port.called some + table.late)
      (last_time port.called some + break_time) (edges_in calls)
  pub address : order.frame.address_byte < 256
  pub opcode : order.frame.opcode_byte < 256

-- A GEAR WITH POWER: the edges that its receiver sees from rest on, and so much time after the last
-- one; whether it executes INITIALISE or RANDOMISE now, as the second of a pair; and the number
-- that it draws then
pub record View (bus : Edges) : Type 0 where
  pub seen : Edges
  pub receiver : Receiver
  pub rest : ℕ
  pub sees : SeesFrom table bus seen
  pub idle : receiver.reading ≡ Idle
  pub high : receiver.is_low ≡ false
  pub long : 2400 ≤ rest
  pub executes : Bool
  pub draw : ℕ

abbrev pub read_by : {bus : Edges} → View bus → Option Frame
read_by v = first_read v.receiver v.seen v.rest

-- A FRAME, one or several that begin with one edge; with a view for each gear of the row, none if a
-- gear has no power
pub record OnBus : Type 0 where
  pub bus : Edges
  pub puts : List (Put bus)
  pub views : List (Option (View bus))

-- ---------------------------------------------------------------- what gear make of it

-- whether it executes the frame that it read, with the number that it draws
abbrev pub executed : {bus : Edges} → View bus → Command → Option ℕ
executed v x = if may_miss x && not v.executes then None else Some v.draw

abbrev pub reached_by : {bus : Edges} → View bus → Option Frame → Option ℕ
reached_by v (Some (Forward f)) = executed v (shown f)
reached_by v (Some (Backward byte)) = None
reached_by v (Some (Device bits)) = None
reached_by v (Some Damaged) = None
reached_by v None = None

abbrev pub taking : Command → Option ℕ → Gear → Gear
taking x None g = g
taking x (Some n) g = takes x n g

abbrev pub read_taken : {bus : Edges} → View bus → Option Frame → Gear → Gear
read_taken v (Some (Forward f)) g = taking (shown f) (executed v (shown f)) g
read_taken v (Some (Backward byte)) g = g
read_taken v (Some (Device bits)) g = g
read_taken v (Some Damaged) g = g
read_taken v None g = g

abbrev pub one_after : {bus : Edges} → Option (View bus) → Gear → Gear
one_after None g = g
one_after (Some v) g = read_taken v (read_by v) g

abbrev pub row_after : {bus : Edges} → List (Option (View bus)) → List Gear → List Gear
row_after [] gs = gs
row_after (v ∷ views) [] = []
row_after (v ∷ views) (g ∷ gs) = one_after v g ∷ row_after views gs

-- ---------------------------------------------------------------- its moment

abbrev pub reached : {bus : Edges} → Option (View bus) → Option ℕ
reached None = None
reached (Some v) = reached_by v (read_by v)

-- of frames that were destroyed the first one stands for all: gear that read one read it
abbrev pub of_first : Option ℕ → Option (ℕ × ℕ)
of_first None = None
of_first (Some n) = Some (0, n)

abbrev pub command_in : {bus : Edges} → Put bus → Command
command_in w = shown w.order.frame

-- a controller that is told silence, a byte or damaged has sent its frame
abbrev pub told_more : ℕ → Word → List (ℕ × Heard) → List (ℕ × Heard)
told_more who (Told heard) told = (who, heard_seen heard) ∷ told
told_more who Lost told = told
told_more who Lapsed told = told

abbrev pub told_of : {bus : Edges} → List (Put bus) → List (ℕ × Heard)
told_of [] = []
told_of (w ∷ puts) = told_more w.who w.word (told_of puts)

abbrev pub lost_of : {bus : Edges} → Put bus → ℕ × Command
lost_of w = (w.who, command_in w)

-- the frame was sent, or all that began were destroyed
abbrev pub moment_by : {bus : Edges} → List (Put bus) → List (ℕ × Heard) → List (Option ℕ)
    → Moment
moment_by puts [] reach = Destroyed (map lost_of puts) (map of_first reach)
moment_by [] (h ∷ told) reach = Destroyed [] (map of_first reach)
moment_by (w ∷ puts) (h ∷ told) reach = Sent (command_in w) (h ∷ told) reach

abbrev pub frame_moment : OnBus → Moment
frame_moment b = moment_by b.puts (told_of b.puts) (map reached b.views)

-- ---------------------------------------------------------------- premises

-- each gear has a view, or no power
abbrev pub AreSeen : {bus : Edges} → List (Option (View bus)) → List Gear → Type 0
AreSeen [] [] = Unit {0}
AreSeen (None ∷ views) (g ∷ gs) = (g.live ≡ false) × AreSeen views gs
AreSeen (Some v ∷ views) (g ∷ gs) = AreSeen views gs
AreSeen _ _ = ⊥

abbrev pub hears_by : Command → Word → List Gear → Bool
hears_by x (Told heard) gs = hears x (heard_seen heard) gs
hears_by x Lost gs = true
hears_by x Lapsed gs = true

-- a frame has a sender; the edges of a bus are falls and rises by turns; and a byte is heard only
-- if a gear answers so
pub record IsOnBus (b : OnBus) (gs : List Gear) : Type 0 where
  pub sent : is_some (slice_get b.puts 0) ≡ true
  pub turns : Alternate false b.bus
  pub seen : AreSeen b.views gs
  pub heard : list_all (λ w. hears_by (command_in w) w.word gs) b.puts ≡ true
