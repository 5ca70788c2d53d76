use Rattle.std.specs.Prelude.{ℕ, Bool, true, false, List, [], map, replicate, Option, Some, None}
use Rattle.std.specs.Prelude.{slice_set, slice_index_or}
use Rattle.dali_gear.specs.Gear.{Gear, fresh}
use Rattle.dali_arbiter.specs.Arbiter.{Arbiter, idle}
use Rattle.dali_script.specs.declared.block.Block.{Block}
use Rattle.dali_script.specs.declared.trace.Entry.{Entry}
use Rattle.dali_script.specs.declared.finding.Finding.{Finding}
use Rattle.dali_script.specs.declared.records.Record.{Record}
use Rattle.dali_script.specs.Records.{Kept, without_records}
use Rattle.dali_script.specs.declared.orders.Input.{Input}
use Rattle.dali_script.specs.declared.orders.Input.TheVariants.{Start}
use Rattle.dali_script.specs.declared.orders.Order.{Order}
use Rattle.dali_events.specs.Used.{with_used, earlier_draw, earlier_gift}
use Rattle.dali_events.specs.Plan.{Plan, no_block}

-- A controller, as a site knows it. It has no phase, no probe and no count of the machine.
pub record Controller : Type 0 where
  pub up : Bool
  -- the records that it keeps over a restart
  pub records : Kept
  -- the record of its last Commit order, until it is known whether the record is kept
  pub outstanding : Option Record
  -- its last finding since it came up
  pub finding : Option Finding
  -- what the bus has told it, and it has not acted on
  pub told : Option Input
  -- what it ordered last since it came up
  pub last : Option Order

-- A site at one moment.
pub record World : Type 0 where
  pub gear : List Gear
  -- the requests that wait, in five lists, and who owns the bus
  pub bus : Arbiter
  -- the frames of the owner's transaction, with what was heard; none if no controller owns the bus
  pub trace : List Entry
  pub controllers : List Controller
  -- the numbers that are left to be drawn
  pub left : List ℕ
  -- HISTORY OF DRAWS: each number that a gear drew, with the gear; the last one stands last
  pub drawn : List (ℕ × ℕ)
  -- HISTORY OF GIFTS: each short address that a gear stored, with the gear; the last one stands
  -- last
  pub gifts : List (ℕ × ℕ)

-- gear g, and controller c
abbrev pub gear_at : World → ℕ → Gear
gear_at w g = slice_index_or w.gear g fresh

abbrev pub nobody : Controller
nobody = record {
  up = false;
  records = without_records no_block;
  outstanding = None;
  finding = None;
  told = None;
  last = None;
}

abbrev pub controller_at : World → ℕ → Controller
controller_at w c = slice_index_or w.controllers c nobody

-- a list with a change at one place; past its end nothing changes
abbrev pub gear_changed : List Gear → ℕ → (Gear → Gear) → List Gear
gear_changed gs g change = slice_set gs g (change (slice_index_or gs g fresh))

abbrev pub controllers_changed : List Controller → ℕ → (Controller → Controller) → List Controller
controllers_changed cs c change = slice_set cs c (change (slice_index_or cs c nobody))

-- THE START: all gear from the factory, but for used ones; all controllers up with empty records
-- and told to start, nothing sent or drawn. `capacity` is how many requests may wait. The numbers
-- of used gear were drawn and their addresses given before.
abbrev pub controller_begun : Block → Controller
controller_begun b = record {
  up = true;
  records = without_records b;
  outstanding = None;
  finding = None;
  told = Some Start;
  last = None;
}

abbrev pub start : Plan → ℕ → World
start p capacity = record {
  gear = with_used (replicate p.gear fresh) p.used;
  bus = idle capacity;
  trace = [];
  controllers = map controller_begun p.blocks;
  left = p.draws;
  drawn = map earlier_draw p.used;
  gifts = map earlier_gift p.used;
}
