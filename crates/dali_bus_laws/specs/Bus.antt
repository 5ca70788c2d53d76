use Rattle.std.specs.Prelude.{◌≡◌, ℕ, ◌+◌, ◌-◌, ◌*◌, ◌≤◌, Bool, List, [], ◌∷◌, Option, Some, None}
use Rattle.std.specs.Option.{option_map}
use Rattle.dali_wire.specs.declared.receiver.Frame.{Frame}
use Rattle.dali_wire.specs.declared.receiver.Told.{Told}
use Rattle.dali_wire.specs.declared.receiver.Receiver.{Receiver}
use Rattle.dali_wire.specs.Reception.{told_of, receiver_after}
use Rattle.dali_bus_laws.specs.Table.{Table}

-- THE BUS, AND WHAT PARTIES SEE OF IT. Of each edge stands the level after it, true if the bus is
-- low, and how many µs passed since the one before.
abbrev pub Edges : Type 0
Edges = List (Bool × ℕ)

-- what a clock counts of a time
abbrev pub Counts : Table → ℕ → ℕ → Type 0
Counts t time counted =
    ((1000 - t.clock) * time ≤ 1000 * (counted + 1))
    × (1000 * counted ≤ (1000 + t.clock) * (time + 1))

-- a party counts so much between two edges, between which so much passed on the bus
pub record IsSeen (t : Table) (passed counted : ℕ) : Type 0 where
  pub time : ℕ
  pub more : passed ≤ time + t.differ
  pub less : time ≤ passed + t.differ
  pub counts : Counts t time counted

-- A PARTY SEES EACH EDGE, and no other: none is deaf, and no noise reaches one party alone.
abbrev pub Sees : Table → Edges → Edges → Type 0
Sees t [] [] = Unit {0}
Sees t (e ∷ bus) (s ∷ seen) = (s.0 ≡ e.0) × IsSeen t e.1 s.1 × Sees t bus seen
Sees t _ _ = ⊥

-- the same from an edge on; what passed before it is not known
abbrev pub SeesFrom : Table → Edges → Edges → Type 0
SeesFrom t [] [] = Unit {0}
SeesFrom t (e ∷ bus) (s ∷ seen) = (s.0 ≡ e.0) × Sees t bus seen
SeesFrom t _ _ = ⊥

-- THE FIRST FRAME THAT A RECEIVER TELLS of the edges that it sees, and of so much time after the
-- last one
abbrev pub or_later : Option Told → Option Told → Option Told
or_later (Some told) later = Some told
or_later None later = later

abbrev pub first_told : Receiver → Edges → ℕ → Option Told
first_told r [] rest = told_of r rest
first_told r (e ∷ edges) rest =
    or_later (told_of r e.1) (first_told (receiver_after r e.0 e.1) edges rest)

abbrev pub first_read : Receiver → Edges → ℕ → Option Frame
first_read r edges rest = option_map (λ told. told.frame) (first_told r edges rest)
