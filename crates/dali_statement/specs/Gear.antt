use Rattle.std.specs.Prelude.{ℕ, ◌<◌, ◌&&◌}
use Rattle.std.specs.Prelude.{if◌then◌else◌}
use Rattle.std.specs.Prelude.{IfSome}
use Rattle.dali_frame.specs.declared.numbers.SearchAddress.{SearchAddress}
use Rattle.dali_special.specs.declared.command.Part.{Part as AskedPart}
use Rattle.dali_special.specs.declared.command.Part.TheVariants as asked
use Rattle.dali_special.specs.declared.command.Command.{Command as Read}
use Rattle.dali_special.specs.declared.command.Command.TheVariants as read
use Rattle.dali_special.specs.Command.{target_data}
use Rattle.dali_gear.specs.Gear.{Gear as Real, is_active}
use Rattle.dali_statement.specs.Page.{Part, High, Middle, Low, Command, Terminate, Initialise}
use Rattle.dali_statement.specs.Page.{Randomise, Search, Program, QueryShort, QueryRandom, Other}
use Rattle.dali_statement.specs.Page.{Gear}

-- GEAR AS THE PAGE SEES THEM: the commands and the gear of `dali_special` and `dali_gear`, of which
-- the page leaves out power, WITHDRAWN and half pairs.

abbrev pub part_seen : AskedPart → Part
part_seen asked.High = High
part_seen asked.Middle = Middle
part_seen asked.Low = Low

abbrev pub command_seen : Read → Command
command_seen read.Terminate = Terminate
command_seen (read.Initialise target) = Initialise (target_data target)
command_seen read.Randomise = Randomise
command_seen read.Compare = Other
command_seen read.Withdraw = Other
command_seen (read.SearchHigh v) = Search High v
command_seen (read.SearchMiddle v) = Search Middle v
command_seen (read.SearchLow v) = Search Low v
command_seen (read.Program a) = Program a
command_seen (read.Verify a) = Other
command_seen read.QueryShort = QueryShort
command_seen (read.RandomByte a part) = QueryRandom a (part_seen part)
command_seen (read.Arc f) = Other
command_seen (read.Other f) = Other

abbrev pub byte_in : SearchAddress → Part → ℕ
byte_in s High = s.high
byte_in s Middle = s.middle
byte_in s Low = s.low

-- without power it is not live, and its search address is that of power-on
abbrev pub gear_seen : Real → Gear
gear_seen g = record {
  live = g.powered && is_active g.state;
  random = g.random;
  search = λ p. if g.powered then byte_in g.search p else 0xFF;
  short = g.short;
}

-- its short address is one
abbrev pub HasShort : Real → Type 0
HasShort g = IfSome g.short (λ a. a < 64)
