use Rattle.std.specs.Prelude.{◌≡◌, ℕ, Some, length}
use Rattle.dali_search.specs.Least.{Search, lowest}
use Rattle.dali_search.specs.Narrowing.{IsSearch}
use Rattle.dali_controller.specs.declared.leg.Leg.{Leg}
use Rattle.dali_controller.specs.declared.leg.Leg.TheVariants.{Revisiting, Asking, Searching}
use Rattle.dali_controller.specs.declared.leg.Leg.TheVariants.{Hunting}
use Rattle.dali_controller.specs.declared.state.State.{State}
use Rattle.dali_controller.specs.Legs.{is_searching, way_on, from_on, silences_on}
use Rattle.dali_controller.specs.Legs.{search_on, ascent_on}
use Rattle.dali_controller.specs.Machine.{Machine}
use Rattle.dali_controller.specs.States.{machine_with}
use Rattle.dali_controller.specs.Whole.{IsWhole}
use Rattle.dali_c.specs.Ascents.{IsPlainAscent}
use Rattle.dali_c.specs.Codes.{bool_of}
use Rattle.dali_c.specs.Pairs.{random_of, search_of}
use Rattle.dali_c.specs.Orders.{order_of, finding_of}
use Rattle.dali_c.specs.Purposes.{purpose_of}
use Rattle.dali_c.specs.Surveys.{way_of, shorts_of}
use Rattle.dali_c.specs.Tallies.{tally_of}
use Rattle.dali_c.specs.Entries.{IsPlainTrace}
use Rattle.dali_c.specs.Records.{kept_of, AreRecords}
use Rattle.dali_c.specs.declared.state.PlainState.{PlainState}
use Rattle.dali_c.specs.declared.machine.PlainMachine.{PlainMachine}

-- DALI_C_VERSION
abbrev pub VERSION : ℕ
VERSION = 106

-- its three numbers are those of this search, and so of no other
pub record IsPlainSearch (p : PlainState) (s : Search) : Type 0 where
  pub search : IsSearch s
  pub answers : length s.answers ≡ p.answers
  pub least : lowest s.answers ≡ random_of p.least
  pub probe : s.probe ≡ random_of p.probe

-- WHAT ITS BYTES SAY of how far it is on its way. Bytes that its leg does not name say nothing.
abbrev pub HasLeg : PlainState → Leg → Type 0
HasLeg p (Revisiting from) = from ≡ p.from
HasLeg p (Asking from silences) = (from ≡ p.from) × (silences ≡ p.asked)
HasLeg p (Searching s) = IsPlainSearch p s
HasLeg p (Hunting a) = IsPlainAscent p.ascent a

pub record IsPlainLeg (p : PlainState) (l : Leg) : Type 0 where
  pub opened : bool_of p.opened ≡ Some (is_searching l)
  pub way : way_of p.way ≡ Some (way_on l)
  pub has : HasLeg p l

-- they are written as contracts see them
pub record FillsLeg (p : PlainState) (l : Leg) : Type 0 where
  pub visits : from_on l ≡ p.from
  pub asked : silences_on l ≡ p.asked
  pub search : IsPlainSearch p (search_on l)
  pub ascent : IsPlainAscent p.ascent (ascent_on l)

-- each field of struct dali_machine but its records stands for a part of this; in C a machine has
-- no number
pub record Spells (p : PlainState) (s : State) : Type 0 where
  pub version : p.version ≡ VERSION
  pub id : s.id ≡ 0
  pub tries : s.tries ≡ p.tries
  pub silent : s.silent ≡ p.silent
  pub purpose : purpose_of p.purpose p.detail ≡ Some s.purpose
  pub number : s.number ≡ search_of p.number
  pub leg : IsPlainLeg p s.leg
  pub finding : finding_of p.finding ≡ Some s.finding
  pub last : order_of p.last ≡ Some s.last
  pub heard : s.heard ≡ shorts_of p.heard
  pub tally : tally_of p.tally ≡ Some s.tally
  pub trace : IsPlainTrace p.entries p.entry_count s.trace

-- its bytes spell this state, and records with which it is a machine between two inputs
pub record IsHeld (p : PlainMachine) (s : State) : Type 0 where
  pub spells : Spells p.state s
  pub records : AreRecords p.records
  pub whole : IsWhole (machine_with s (kept_of p.records))

-- THE STRUCT HOLDS A MACHINE.
pub record Holds (p : PlainMachine) (m : Machine) : Type 0 where
  pub state : State
  pub held : IsHeld p state
  pub is : m ≡ machine_with state (kept_of p.records)

-- what was read of it: the state of the machine that it holds, and of no other
pub record IsRead (p : PlainMachine) (s : State) : Type 0 where
  pub held : IsHeld p s
  pub machine : Holds p (machine_with s (kept_of p.records))
  pub once : (m : Machine) → Holds p m → m ≡ machine_with s (kept_of p.records)
