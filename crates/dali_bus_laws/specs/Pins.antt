use Rattle.std.specs.Prelude.{◌≡◌, ℕ, ◌+◌, ◌-◌, ◌*◌, ◌<◌, ◌≤◌, Bool, true, false, List, [], ◌∷◌}
use Rattle.std.specs.Prelude.{◌++◌, slice_index_or}
use Rattle.dali_frame.specs.declared.frames.Forward.{Forward}
use Rattle.dali_port.specs.declared.orders.Order.{Order}
use Rattle.dali_port.specs.Times.{half_bit, apart, settling_of}
use Rattle.dali_port.specs.State.{Port, Sending}
use Rattle.dali_port.specs.Frames.{begun_at}
use Rattle.dali_port.specs.Runs.{Call, Sends, Times, Turns, Loses, time_of}
use Rattle.dali_port.specs.Stretches.{IsWhole}
use Rattle.dali_bus_laws.specs.Table.{Table}
use Rattle.dali_bus_laws.specs.Bus.{Edges, SeesFrom}

-- WHAT A PORT SAW, by its calls: the level after each edge, and when it was, until the port is told
-- that it may have lost one
abbrev pub edges_in : List Call → Edges
edges_in [] = []
edges_in (Sends order now ∷ calls) = edges_in calls
edges_in (Times now ∷ calls) = edges_in calls
edges_in (Turns low now ∷ calls) = (low, now) ∷ edges_in calls
edges_in (Loses low now ∷ calls) = []

-- the same with the time since the edge before
abbrev pub spaced : ℕ → Edges → Edges
spaced last [] = []
spaced last (e ∷ edges) = (e.0, e.1 - last) ∷ spaced e.1 edges

-- its host calls in the order of time
abbrev pub InOrder : ℕ → List Call → Type 0
InOrder from [] = Unit {0}
InOrder from (c ∷ calls) = (from ≤ time_of c) × InOrder (time_of c) calls

-- THE EDGES OF LEVELS, half bit by half bit, each within so many µs after the level began; if an
-- edge follows them, it comes when they are over.
abbrev pub AreEdgesOf : Bool → ℕ → List Bool → Edges → Type 0
AreEdgesOf was at [] [] = Unit {0}
AreEdgesOf was at [] (e ∷ edges) = at ≤ e.1
AreEdgesOf true at (true ∷ levels) edges = AreEdgesOf true (at + half_bit) levels edges
AreEdgesOf false at (false ∷ levels) edges = AreEdgesOf false (at + half_bit) levels edges
AreEdgesOf true at (false ∷ levels) [] = ⊥
AreEdgesOf true at (false ∷ levels) (e ∷ edges) =
    (e.0 ≡ false) × (at ≤ e.1) × (e.1 ≤ at + apart)
    × AreEdgesOf false (at + half_bit) levels edges
AreEdgesOf false at (true ∷ levels) [] = ⊥
AreEdgesOf false at (true ∷ levels) (e ∷ edges) =
    (e.0 ≡ true) × (at ≤ e.1) × (e.1 ≤ at + apart)
    × AreEdgesOf true (at + half_bit) levels edges

-- A PORT THAT HAS JUST BEGUN a frame, after rest
pub record HasBegun (p : Port) (order : Order) : Type 0 where
  pub phase : p.phase ≡ Sending (begun_at order p.called)
  pub high : p.is_low ≡ false
  pub rest : settling_of order.priority ≤ p.called - p.edge

-- on the bus no less passed before an edge than a party counts
abbrev pub RestedFor : Table → Edges → ℕ → Type 0
RestedFor t [] rest = Unit {0}
RestedFor t (e ∷ bus) rest = 1000 * rest ≤ (1000 + t.clock) * (e.1 + t.differ + 1)

-- A PORT SENDS A FRAME WHOLE, whose first edge is the first of these of the bus.
pub record SendsWhole (t : Table) (bus : Edges) (frame : Forward) : Type 0 where
  pub port : Port
  pub order : Order
  pub calls : List Call
  pub more : List Call
  pub is : order.frame ≡ frame
  pub begun : HasBegun port order
  pub whole : IsWhole port calls
  pub in_order : InOrder port.called (calls ++ more)
  pub sees : SeesFrom t bus (spaced port.called (edges_in (calls ++ more)))
  pub rested : RestedFor t bus (port.called - port.edge)
  pub address : frame.address_byte < 256
  pub opcode : frame.opcode_byte < 256

-- when its port saw an edge of the bus, the first one being edge 0
abbrev pub seen_at : {t : Table} {bus : Edges} {f : Forward} → SendsWhole t bus f → ℕ → ℕ
seen_at s n = (slice_index_or (edges_in (s.calls ++ s.more)) n (false, 0)).1

-- when its stop condition is over
abbrev pub over_at : {t : Table} {bus : Edges} {f : Forward} → SendsWhole t bus f → ℕ
over_at s = s.port.called + 40 * half_bit
