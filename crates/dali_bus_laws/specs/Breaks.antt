use Rattle.std.specs.Prelude.{◌≡◌, ℕ, ◌+◌, ◌<◌, ◌≤◌, ◌⊎◌, Bool, true, false, not}
use Rattle.std.specs.Prelude.{List, [], ◌∷◌, ◌++◌}
use Rattle.dali_frame.specs.declared.frames.Forward.{Forward}
use Rattle.dali_port.specs.declared.orders.Order.{Order}
use Rattle.dali_port.specs.Times.{break_time}
use Rattle.dali_port.specs.State.{Port, Phase, Free, Waiting, Sending, Breaking, Listening}
use Rattle.dali_port.specs.Laws.{is_sending}
use Rattle.dali_port.specs.Runs.{Call, after, time_of}
use Rattle.dali_bus_laws.specs.Table.{Table}
use Rattle.dali_bus_laws.specs.Bus.{Edges, SeesFrom}
use Rattle.dali_bus_laws.specs.Pins.{edges_in, spaced, InOrder, HasBegun}

-- THE CALLS OF A FRAME THAT IS DESTROYED: the last one leads to a break.
abbrev pub is_breaking : Phase → Bool
is_breaking Free = false
is_breaking (Waiting order) = false
is_breaking (Sending s) = false
is_breaking (Breaking since) = true
is_breaking (Listening l) = false

abbrev pub IsDestroyed : Table → Port → List Call → Type 0
IsDestroyed t p [] = ⊥
IsDestroyed t p (c ∷ calls) =
    ((is_breaking (after p c).phase ≡ true) × (calls ≡ []) × (time_of c ≤ p.called + t.stall))
    ⊎ ((is_sending (after p c).phase ≡ true) × IsDestroyed t (after p c) calls)

abbrev pub last_time : ℕ → List Call → ℕ
last_time from [] = from
last_time from (c ∷ calls) = last_time (time_of c) calls

-- THE BUS IS HELD LOW from one moment until another
abbrev pub IsHeld : Bool → ℕ → ℕ → Edges → Type 0
IsHeld was from until [] = was ≡ true
IsHeld was from until (e ∷ edges) =
    ((e.1 ≤ from) × IsHeld e.0 from until edges) ⊎ ((was ≡ true) × (until ≤ e.1))

-- the edges of a bus are falls and rises by turns
abbrev pub Alternate : Bool → Edges → Type 0
Alternate was [] = Unit {0}
Alternate was (e ∷ edges) = (e.0 ≡ not was) × Alternate e.0 edges

-- A PORT BREAKS A FRAME OFF, whose first edge is the first of these of the bus.
pub record BreaksOff (t : Table) (bus : Edges) (frame : Forward) : Type 0 where
  pub port : Port
  pub order : Order
  pub calls : List Call
  pub more : List Call
  pub is : order.frame ≡ frame
  pub begun : HasBegun port order
  pub destroyed : IsDestroyed t port calls
  pub in_order : InOrder port.called (calls ++ more)
  pub sees : SeesFrom t bus (spaced port.called (edges_in (calls ++ more)))
  pub held : IsHeld false (last_time port.called calls + t.late)
      (last_time port.called calls + break_time) (edges_in (calls ++ more))
  pub alternate : Alternate false bus
  pub address : frame.address_byte < 256
  pub opcode : frame.opcode_byte < 256
