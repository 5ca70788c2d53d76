use Rattle.std.specs.Prelude.{ℕ, List, ◌++◌, Option, Some, None, codes, decimal}
use Rattle.dali_frame.specs.Hex.{byte_text}
use Rattle.dali_special.specs.declared.command.Target.{Target}
use Rattle.dali_special.specs.declared.command.Target.TheVariants as target
use Rattle.dali_special.specs.declared.command.Part.{Part}
use Rattle.dali_special.specs.declared.command.Part.TheVariants as part
use Rattle.dali_special.specs.declared.command.Command.{Command}
use Rattle.dali_special.specs.declared.command.Command.TheVariants as command

-- THE NAMES OF COMMANDS, as the standard has them, each with its argument: a byte as two digits, a
-- short address as a number.

unfoldable pub with_byte : List ℕ → ℕ → List ℕ
with_byte name byte = name ++ (codes " " ++ byte_text byte)

unfoldable pub with_short : List ℕ → ℕ → List ℕ
with_short name a = name ++ (codes " " ++ decimal a)

unfoldable pub initialise_text : Target → List ℕ
initialise_text target.All = codes "INITIALISE all"
initialise_text (target.Addressed a) = with_short (codes "INITIALISE") a
initialise_text target.Unaddressed = codes "INITIALISE no short address"

unfoldable pub program_text : Option ℕ → List ℕ
program_text None = codes "PROGRAM SHORT ADDRESS none"
program_text (Some a) = with_short (codes "PROGRAM SHORT ADDRESS") a

abbrev pub query_name : Part → List ℕ
query_name part.High = codes "QUERY RANDOM ADDRESS (H)"
query_name part.Middle = codes "QUERY RANDOM ADDRESS (M)"
query_name part.Low = codes "QUERY RANDOM ADDRESS (L)"

unfoldable pub command_text : Command → List ℕ
command_text command.Terminate = codes "TERMINATE"
command_text (command.Initialise t) = initialise_text t
command_text command.Randomise = codes "RANDOMISE"
command_text command.Compare = codes "COMPARE"
command_text command.Withdraw = codes "WITHDRAW"
command_text (command.SearchHigh byte) = with_byte (codes "SEARCHADDRH") byte
command_text (command.SearchMiddle byte) = with_byte (codes "SEARCHADDRM") byte
command_text (command.SearchLow byte) = with_byte (codes "SEARCHADDRL") byte
command_text (command.Program short) = program_text short
command_text (command.Verify a) = with_short (codes "VERIFY SHORT ADDRESS") a
command_text command.QueryShort = codes "QUERY SHORT ADDRESS"
command_text (command.RandomByte a p) = with_short (query_name p) a
command_text (command.Arc f) = codes "DAPC"
command_text (command.Other f) = codes "other"
