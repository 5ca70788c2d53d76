use Rattle.std.specs.Prelude.{ℕ, Bool, true, false, Option, Some, None, ◌==◌, ◌&&◌, nat_le}
use Rattle.std.specs.Prelude.{if◌then◌else◌}
use Rattle.dali_frame.specs.declared.numbers.SearchAddress.{SearchAddress}
use Rattle.dali_frame.specs.Random.{value_of, high_of, middle_of, low_of, MASK24}
use Rattle.dali_special.specs.declared.command.Target.{Target}
use Rattle.dali_special.specs.declared.command.Target.TheVariants.{All, Addressed, Unaddressed}
use Rattle.dali_special.specs.declared.command.Part.{Part}
use Rattle.dali_special.specs.declared.command.Part.TheVariants.{High, Middle, Low}
use Rattle.dali_special.specs.declared.command.Command.{Command}
use Rattle.dali_special.specs.declared.command.Command.TheVariants.{Terminate, Initialise}
use Rattle.dali_special.specs.declared.command.Command.TheVariants.{Randomise, Compare, Withdraw}
use Rattle.dali_special.specs.declared.command.Command.TheVariants.{SearchHigh, SearchMiddle}
use Rattle.dali_special.specs.declared.command.Command.TheVariants.{SearchLow, Program, Verify}
use Rattle.dali_special.specs.declared.command.Command.TheVariants.{QueryShort, RandomByte}
use Rattle.dali_special.specs.Command.{program_data, is_send_twice}
use Rattle.dali_gear.specs.declared.state.InitialisationState.{InitialisationState}
use Rattle.dali_gear.specs.declared.state.InitialisationState.TheVariants.{Disabled, Enabled}
use Rattle.dali_gear.specs.declared.state.InitialisationState.TheVariants.{Withdrawn}

-- A control gear: whether it has power, and its variables of addressing (IEC 62386-102:2014,
-- declaration of variables).
pub record Gear : Type 0 where
  pub powered : Bool
  pub state : InitialisationState
  pub random : ℕ
  pub search : SearchAddress
  pub short : Option ℕ
  -- the first frame of a send-twice pair, if it was the last frame that the gear took
  pub half : Option Command

abbrev pub is_enabled : InitialisationState → Bool
is_enabled Enabled = true
is_enabled _ = false

-- ENABLED or WITHDRAWN: the gear takes part in the initialisation
abbrev pub is_active : InitialisationState → Bool
is_active Disabled = false
is_active _ = true

-- the random address is the search address
abbrev pub is_found : Gear → Bool
is_found g = g.random == value_of g.search

-- the same gear are meant
abbrev pub same_target : Target → Target → Bool
same_target All All = true
same_target (Addressed a) (Addressed b) = a == b
same_target Unaddressed Unaddressed = true
same_target _ _ = false

-- the second of two equal send-twice frames, taken one directly after the other
abbrev pub is_second : Command → Option Command → Bool
is_second (Initialise target) (Some (Initialise first)) = same_target target first
is_second Randomise (Some Randomise) = true
is_second _ _ = false

-- the gear of which an INITIALISE speaks
abbrev pub concerns : Target → Option ℕ → Bool
concerns All short = true
concerns (Addressed a) (Some short) = a == short
concerns (Addressed a) None = false
concerns Unaddressed (Some short) = false
concerns Unaddressed None = true

-- What a powered gear does with a command, variable by variable.

abbrev pub state_after : Command → Gear → InitialisationState
state_after Terminate g = Disabled
state_after (Initialise target) g =
    if is_second (Initialise target) g.half && concerns target g.short then Enabled else g.state
state_after Withdraw g = if is_enabled g.state && is_found g then Withdrawn else g.state
state_after _ g = g.state

-- RANDOMISE draws a number
abbrev pub draws_a_number : Command → Gear → Bool
draws_a_number Randomise g = is_second Randomise g.half && is_active g.state
draws_a_number _ g = false

abbrev pub random_after : Command → ℕ → Gear → ℕ
random_after c draw g = if draws_a_number c g then draw else g.random

abbrev pub search_after : Command → Gear → SearchAddress
search_after (SearchHigh byte) g =
    if is_active g.state then record g.search { high = byte } else g.search
search_after (SearchMiddle byte) g =
    if is_active g.state then record g.search { middle = byte } else g.search
search_after (SearchLow byte) g =
    if is_active g.state then record g.search { low = byte } else g.search
search_after _ g = g.search

abbrev pub short_after : Command → Gear → Option ℕ
short_after (Program short) g = if is_active g.state && is_found g then short else g.short
short_after _ g = g.short

-- a first frame of a pair is remembered, and any other frame makes an end of it
abbrev pub half_after : Command → Gear → Option Command
half_after c g = if is_send_twice c then (if is_second c g.half then None else Some c) else None

abbrev pub gear_taken : Command → ℕ → Gear → Gear
gear_taken c draw g = record {
  powered = g.powered;
  state = state_after c g;
  random = random_after c draw g;
  search = search_after c g;
  short = short_after c g;
  half = half_after c g;
}

-- YES, as a backward frame
abbrev pub YES : ℕ
YES = 0xFF

abbrev pub has_short : ℕ → Option ℕ → Bool
has_short a None = false
has_short a (Some short) = a == short

-- the byte of a random address that a query asks for
abbrev pub byte_at : Part → ℕ → ℕ
byte_at High r = high_of r
byte_at Middle r = middle_of r
byte_at Low r = low_of r

-- the backward frame that a powered gear answers; a query of its random address in any state
abbrev pub answer : Command → Gear → Option ℕ
answer Compare g =
    if is_enabled g.state && nat_le g.random (value_of g.search) then Some YES else None
answer (Verify a) g = if is_active g.state && has_short a g.short then Some YES else None
answer QueryShort g = if is_active g.state && is_found g then Some (program_data g.short) else None
answer (RandomByte a part) g =
    if has_short a g.short then Some (byte_at part g.random) else None
answer _ g = None

-- A gear without power takes nothing.

abbrev pub after_frame : Command → ℕ → Gear → Gear
after_frame c draw g = if g.powered then gear_taken c draw g else g

abbrev pub answer_to : Command → Gear → Option ℕ
answer_to c g = if g.powered then answer c g else None

abbrev pub would_draw : Command → Gear → Bool
would_draw c g = g.powered && draws_a_number c g

-- The gear before any frame, and what befalls it without one.

abbrev pub search_mask : SearchAddress
search_mask = record { high = 0xFF; middle = 0xFF; low = 0xFF }

abbrev pub fresh : Gear
fresh = record {
  powered = true;
  state = Disabled;
  random = MASK24;
  search = search_mask;
  short = None;
  half = None;
}

-- a gear from the factory that drew a random address and stored a short address under it
abbrev pub addressed : ℕ → ℕ → Gear
addressed r a = record {
  powered = true;
  state = Disabled;
  random = r;
  search = search_mask;
  short = Some a;
  half = None;
}

abbrev pub without_power : Gear → Gear
without_power g = record g { powered = false }

-- at power-on the random and the short address are those from before
abbrev pub with_power : Gear → Gear
with_power g =
    if g.powered
    then g
    else record g { powered = true; state = Disabled; search = search_mask; half = None }

-- the 15 minutes of the initialisation are over
abbrev pub gear_expired : Gear → Gear
gear_expired g = record g { state = Disabled }

-- the bus was quiet for so long that no pair is left half
abbrev pub gear_quieted : Gear → Gear
gear_quieted g = record g { half = None }
