use Rattle.std.specs.Prelude.{◌≡◌, ℕ, ◌==◌, Bool, true, false, not, ◌&&◌, if◌then◌else◌, Option}
use Rattle.std.specs.Prelude.{Some, None, List, [], ◌∷◌, ◌++◌, map, slice_get}
use Rattle.std.specs.List.{list_all}
use Rattle.dali_port.specs.declared.orders.Word.{Word}
use Rattle.dali_port.specs.declared.orders.Word.TheVariants.{Heard as Told, Destroyed as Lost}
use Rattle.dali_port.specs.declared.orders.Word.TheVariants.{Lapsed}
use Rattle.dali_port.specs.Orders.{is_later}
use Rattle.dali_bus_laws.specs.Bus.{Edges}
use Rattle.dali_statement.specs.Page.{Command, Heard, Gear, Moment, Sent, Destroyed, Reserves}
use Rattle.dali_statement.specs.Page.{Enrols, Releases, Power, Expires, Plan, Site, start}
use Rattle.dali_statement.specs.Page.{gear_after, happens, are_apart, may_send, allowed, after}
use Rattle.dali_statement.specs.Scripts.{heard_seen}
use Rattle.dali_pin_laws.specs.Frames.{OnBus, Put, command_in, row_after, frame_moment, IsOnBus}

-- A RUN AT THE PINS: frames of controllers over ports; and what else happens, as on the page:
-- records, power, and frames of senders that have no port.
pub data Event : Type 0 where
  Frame : OnBus → Event
  Else : Moment → Event

abbrev pub moment_of : Event → Moment
moment_of (Frame b) = frame_moment b
moment_of (Else m) = m

-- THE GEAR: each takes what its receiver read
abbrev pub row_by : Event → List Gear → List Gear
row_by (Frame b) gs = row_after b.views gs
row_by (Else m) gs = gear_after m gs

abbrev pub row_all : List Gear → List Event → List Gear
row_all gs [] = gs
row_all gs (e ∷ es) = row_all (row_by e gs) es

-- THE BUS AND THE GEAR KEEP THE PREMISES
abbrev pub IsSo : Event → List Gear → Type 0
IsSo (Frame b) gs = IsOnBus b gs
IsSo (Else m) gs = Unit {0}

abbrev pub IsRun : List Gear → List Event → Type 0
IsRun gs [] = Unit {0}
IsRun gs (e ∷ es) = (are_apart gs ≡ true) × IsSo e gs × IsRun (row_by e gs) es

-- WHAT A CONTROLLER KNOWS: its list since its transaction began, by what its port told it; and
-- whether another frame came since its last one.
pub record Known : Type 0 where
  pub said : List (Command × Heard)
  pub broken : Bool

-- a frame of priority 1 goes on with the transaction
abbrev pub said_before : {bus : Edges} → Put bus → List (Command × Heard) → List (Command × Heard)
said_before w said = if is_later w.order then said else []

abbrev pub said_after : Command → Word → List (Command × Heard) → List (Command × Heard)
said_after x (Told heard) said = (x, heard_seen heard) ∷ said
said_after x Lost said = []
said_after x Lapsed said = []

abbrev pub put_of : {bus : Edges} → ℕ → List (Put bus) → Option (Put bus)
put_of c [] = None
put_of c (w ∷ puts) = if w.who == c then Some w else put_of c puts

abbrev pub known_by : {bus : Edges} → Option (Put bus) → Known → Known
known_by None k = record k { broken = true }
known_by (Some w) k = record {
  said = said_after (command_in w) w.word (said_before w k.said);
  broken = false;
}

abbrev pub known_beside : Moment → Known → Known
known_beside (Sent x senders reach) k = record k { broken = true }
known_beside (Destroyed frames reach) k = record k { broken = true }
known_beside (Reserves c a r) k = k
known_beside (Enrols c a r) k = k
known_beside (Releases c a r b) k = k
known_beside (Power reach) k = k
known_beside (Expires reach) k = k

abbrev pub known_after : Event → (ℕ → Known) → ℕ → Known
known_after (Frame b) known c = known_by (put_of c b.puts) (known c)
known_after (Else m) known c = known_beside m (known c)

abbrev pub at_first : ℕ → Known
at_first c = record { said = []; broken = false }

-- THE CONTROLLERS KEEP THE RULES, each by its own list. A port begins a later frame of a
-- transaction only if no other frame came since its last one.
abbrev pub may_put : {bus : Edges} → Site → Known → Put bus → Bool
may_put s k w =
    not (is_later w.order && k.broken)
    && may_send (record s { said = λ c. said_before w k.said }) w.who (command_in w)

abbrev pub keeps : Plan → Site → (ℕ → Known) → Event → Bool
keeps p s known (Frame b) = list_all (λ w. may_put s (known w.who) w) b.puts
keeps p s known (Else m) = allowed p s m

abbrev pub all_keep : Plan → Site → (ℕ → Known) → List Event → Bool
all_keep p s known [] = true
all_keep p s known (e ∷ es) =
    keeps p s known e && all_keep p (happens s (moment_of e)) (known_after e known) es

-- THE PROMISE, of the gear at the pins
abbrev pub HoldsAt : List Gear → ℕ → ℕ → ℕ → Type 0
HoldsAt gs g a r =
    (x : Gear) × (slice_get gs g ≡ Some x) × (x.short ≡ Some a) × (x.random ≡ r)

pub record KeepsAtPins (p : Plan) (es : List Event) : Type 0 where
  -- no two gear hold one short address
  pub one_gear : (earlier more : List Event) → earlier ++ more ≡ es → (g h a r q : ℕ)
      → HoldsAt (row_all p.gear earlier) g a r → HoldsAt (row_all p.gear earlier) h a q → g ≡ h
  -- a gear that holds one keeps it, with its random address
  pub ever_after : (earlier later rest : List Event) → earlier ++ (later ++ rest) ≡ es
      → (g a r : ℕ) → HoldsAt (row_all p.gear earlier) g a r
      → HoldsAt (row_all p.gear (earlier ++ later)) g a r
  -- each table is true
  pub tables : (earlier more : List Event) → earlier ++ more ≡ es → (c a r : ℕ)
      → (after (start p) (map moment_of earlier)).enrolled c a r ≡ true
      → (g : ℕ) × HoldsAt (row_all p.gear earlier) g a r
