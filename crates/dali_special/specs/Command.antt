use Rattle.std.specs.Prelude.{◌≡◌, ℕ, ◌%◌, ◌<◌, List, [], ◌∷◌, Bool, true, false, Option, Some}
use Rattle.std.specs.Prelude.{None, ◌==◌, if◌then◌else◌, option_map, unwrap_or}
use Rattle.dali_frame.specs.declared.frames.Forward.{Forward}
use Rattle.dali_frame.specs.Short.{code_of, short_of}
use Rattle.dali_special.specs.declared.command.Target.{Target}
use Rattle.dali_special.specs.declared.command.Target.TheVariants.{All, Addressed, Unaddressed}
use Rattle.dali_special.specs.declared.command.Part.{Part}
use Rattle.dali_special.specs.declared.command.Part.TheVariants.{High, Middle, Low}
use Rattle.dali_special.specs.declared.command.Command.{Command}
use Rattle.dali_special.specs.declared.command.Command.TheVariants.{Terminate, Initialise}
use Rattle.dali_special.specs.declared.command.Command.TheVariants.{Randomise, Compare, Withdraw}
use Rattle.dali_special.specs.declared.command.Command.TheVariants.{SearchHigh, SearchMiddle}
use Rattle.dali_special.specs.declared.command.Command.TheVariants.{SearchLow, Program, Verify}
use Rattle.dali_special.specs.declared.command.Command.TheVariants.{QueryShort, RandomByte}
use Rattle.dali_special.specs.declared.command.Command.TheVariants.{Arc, Other}

-- the data byte that stands for no short address
abbrev pub MASK : ℕ
MASK = 0xFF

-- INITIALISE: the gear that a data byte speaks of, and the other way round
abbrev pub target_of : ℕ → Option Target
target_of byte =
    if byte == 0
    then Some All
    else if byte == MASK then Some Unaddressed else option_map (λ a. Addressed a) (short_of byte)

abbrev pub target_data : Target → ℕ
target_data All = 0
target_data (Addressed a) = code_of a
target_data Unaddressed = MASK

-- PROGRAM SHORT ADDRESS: the address that a data byte stores, and the other way round
abbrev pub program_of : ℕ → Option Command
program_of byte =
    if byte == MASK then Some (Program None) else option_map (λ a. Program (Some a)) (short_of byte)

abbrev pub program_data : Option ℕ → ℕ
program_data None = MASK
program_data (Some a) = code_of a

-- a command whose data byte is 00
abbrev pub without_data_of : Command → ℕ → Option Command
without_data_of command byte = if byte == 0 then Some command else None

-- The table of special commands: the address byte, and the command of each data byte that has one.
abbrev pub Row : Type 0
Row = ℕ × (ℕ → Option Command)

abbrev pub rows : List Row
rows =
    (0xA1, without_data_of Terminate) ∷
    (0xA5, λ byte. option_map (λ target. Initialise target) (target_of byte)) ∷
    (0xA7, without_data_of Randomise) ∷
    (0xA9, without_data_of Compare) ∷
    (0xAB, without_data_of Withdraw) ∷
    (0xB1, λ byte. Some (SearchHigh byte)) ∷
    (0xB3, λ byte. Some (SearchMiddle byte)) ∷
    (0xB5, λ byte. Some (SearchLow byte)) ∷
    (0xB7, program_of) ∷
    (0xB9, λ byte. option_map (λ a. Verify a) (short_of byte)) ∷
    (0xBB, without_data_of QueryShort) ∷
    []

-- the command of two bytes by the first row with this address byte
abbrev pub row_of : ℕ → ℕ → List Row → Option Command
row_of address byte [] = None
row_of address byte (row ∷ more) = if address == row.0 then row.1 byte else row_of address byte more

-- QUERY RANDOM ADDRESS (H), (M) and (L): the byte that an opcode asks for, and the other way round
abbrev pub part_of : ℕ → Option Part
part_of byte =
    if byte == 0xC2
    then Some High
    else if byte == 0xC3 then Some Middle else if byte == 0xC4 then Some Low else None

abbrev pub part_code : Part → ℕ
part_code High = 0xC2
part_code Middle = 0xC3
part_code Low = 0xC4

-- A query of the gear with one short address. Its address byte is below 80, so no row above is met.
abbrev pub query_by : Option ℕ → Option Part → Option Command
query_by (Some a) (Some part) = Some (RandomByte a part)
query_by _ _ = None

abbrev pub query_of : ℕ → ℕ → Option Command
query_of address byte = query_by (short_of address) (part_of byte)

-- the command of a frame that is no direct arc power: a query, else by the table, else none of both
abbrev pub special_of : Option Command → Forward → Command
special_of (Some query) f = query
special_of None f = unwrap_or (row_of f.address_byte f.opcode_byte rows) (Other f)

-- The command of a frame: direct arc power if the address byte has last bit 0, else a query of
-- one gear, else by the table of special commands, else none.
unfoldable pub command_of : Forward → Command
command_of f =
    if f.address_byte % 2 == 0
    then Arc f
    else special_of (query_of f.address_byte f.opcode_byte) f

-- the frame of two bytes
abbrev pub frame : ℕ → ℕ → Forward
frame address byte = record { address_byte = address; opcode_byte = byte }

-- The same table, from a command to its frame.
abbrev pub frame_of : Command → Forward
frame_of Terminate = frame 0xA1 0
frame_of (Initialise target) = frame 0xA5 (target_data target)
frame_of Randomise = frame 0xA7 0
frame_of Compare = frame 0xA9 0
frame_of Withdraw = frame 0xAB 0
frame_of (SearchHigh byte) = frame 0xB1 byte
frame_of (SearchMiddle byte) = frame 0xB3 byte
frame_of (SearchLow byte) = frame 0xB5 byte
frame_of (Program short) = frame 0xB7 (program_data short)
frame_of (Verify a) = frame 0xB9 (code_of a)
frame_of QueryShort = frame 0xBB 0
frame_of (RandomByte a part) = frame (code_of a) (part_code part)
frame_of (Arc f) = f
frame_of (Other f) = f

-- gear execute INITIALISE and RANDOMISE only at the second of two equal frames
abbrev pub is_send_twice : Command → Bool
is_send_twice (Initialise target) = true
is_send_twice Randomise = true
is_send_twice _ = false

-- gear may answer COMPARE and the queries with a backward frame, and no other command
abbrev pub is_question : Command → Bool
is_question Compare = true
is_question (Verify a) = true
is_question QueryShort = true
is_question (RandomByte a part) = true
is_question Terminate = false
is_question (Initialise target) = false
is_question Randomise = false
is_question Withdraw = false
is_question (SearchHigh byte) = false
is_question (SearchMiddle byte) = false
is_question (SearchLow byte) = false
is_question (Program a) = false
is_question (Arc f) = false
is_question (Other f) = false

-- a command that its frame is read as: its address is one, and the frame of an `Arc` or `Other` has
-- no other command
abbrev pub IsSpelled : Command → Type 0
IsSpelled (Initialise (Addressed a)) = a < 64
IsSpelled (Program (Some a)) = a < 64
IsSpelled (Verify a) = a < 64
IsSpelled (RandomByte a part) = a < 64
IsSpelled (Arc f) = (f.address_byte % 2 == 0) ≡ true
IsSpelled (Other f) = command_of f ≡ Other f
IsSpelled _ = Unit {0}
