use Rattle.std.specs.Prelude.{ℕ, ◌-◌, Bool, true, false, ◌&&◌, ◌||◌, not, ◌==◌, nat_lt}
use Rattle.std.specs.Prelude.{Option, Some, None, if◌then◌else◌}
use Rattle.dali_frame.specs.declared.frames.Forward.{Forward}
use Rattle.dali_frame.specs.declared.frames.Answer.{Answer}
use Rattle.dali_frame.specs.declared.frames.Answer.TheVariants as answer
use Rattle.dali_frame.specs.Random.{number_of}
use Rattle.dali_special.specs.declared.command.Target.{Target}
use Rattle.dali_special.specs.declared.command.Target.TheVariants.{All, Addressed, Unaddressed}
use Rattle.dali_special.specs.declared.command.Part.{Part}
use Rattle.dali_special.specs.declared.command.Part.TheVariants.{High, Middle, Low}
use Rattle.dali_special.specs.declared.command.Command.{Command}
use Rattle.dali_special.specs.declared.command.Command.TheVariants.{Terminate, Initialise}
use Rattle.dali_special.specs.declared.command.Command.TheVariants.{Randomise, Compare, Withdraw}
use Rattle.dali_special.specs.declared.command.Command.TheVariants.{SearchHigh, SearchMiddle}
use Rattle.dali_special.specs.declared.command.Command.TheVariants.{SearchLow, Program, Verify}
use Rattle.dali_special.specs.declared.command.Command.TheVariants.{QueryShort, RandomByte}
use Rattle.dali_special.specs.declared.command.Command.TheVariants.{Arc, Other}
use Rattle.dali_special.specs.Command.{command_of, is_send_twice}
use Rattle.dali_capture.specs.declared.item.Item.{Item}
use Rattle.dali_capture.specs.declared.item.Heard.{Heard}
use Rattle.dali_capture.specs.declared.item.Heard.TheVariants as heard
use Rattle.dali_audit.specs.declared.seen.Seen.{Seen}
use Rattle.dali_audit.specs.declared.seen.Seen.TheVariants as seen
use Rattle.dali_audit.specs.declared.bus.Search.{Search}
use Rattle.dali_audit.specs.declared.bus.First.{First}
use Rattle.dali_audit.specs.declared.bus.Begun.{Begun}
use Rattle.dali_audit.specs.declared.bus.Spelled.{Spelled}
use Rattle.dali_audit.specs.declared.bus.Spelled.TheVariants as spelled
use Rattle.dali_audit.specs.declared.bus.Bus.{Bus}

-- WHAT A CAPTURE TELLS OF THE BUS up to an item.

abbrev pub same_frame : Forward → Forward → Bool
same_frame f g = (f.address_byte == g.address_byte) && (f.opcode_byte == g.opcode_byte)

-- a frame that is a command of the table
abbrev pub addresses : Command → Bool
addresses Terminate = true
addresses (Initialise target) = true
addresses Randomise = true
addresses Compare = true
addresses Withdraw = true
addresses (SearchHigh byte) = true
addresses (SearchMiddle byte) = true
addresses (SearchLow byte) = true
addresses (Program a) = true
addresses (Verify a) = true
addresses QueryShort = true
addresses (RandomByte a part) = true
addresses (Arc f) = false
addresses (Other f) = false

abbrev pub is_addressing : Forward → Bool
is_addressing f = addresses (command_of f)

-- a byte of the search address
abbrev pub is_search : Command → Bool
is_search (SearchHigh byte) = true
is_search (SearchMiddle byte) = true
is_search (SearchLow byte) = true
is_search Terminate = false
is_search (Initialise target) = false
is_search Randomise = false
is_search Compare = false
is_search Withdraw = false
is_search (Program a) = false
is_search (Verify a) = false
is_search QueryShort = false
is_search (RandomByte a part) = false
is_search (Arc f) = false
is_search (Other f) = false

-- a frame for gear in an initialisation alone (IEC 62386-102:2014, special commands)
abbrev pub for_initialised : Command → Bool
for_initialised Randomise = true
for_initialised Compare = true
for_initialised Withdraw = true
for_initialised (SearchHigh byte) = true
for_initialised (SearchMiddle byte) = true
for_initialised (SearchLow byte) = true
for_initialised (Program a) = true
for_initialised (Verify a) = true
for_initialised QueryShort = true
for_initialised Terminate = false
for_initialised (Initialise target) = false
for_initialised (RandomByte a part) = false
for_initialised (Arc f) = false
for_initialised (Other f) = false

abbrev pub in_initialisation : Forward → Bool
in_initialisation f = for_initialised (command_of f)

-- THE SEARCH ADDRESS, by the bytes that were sent last
abbrev pub number_by : Option ℕ → Option ℕ → Option ℕ → Option ℕ
number_by (Some high) (Some middle) (Some low) = Some (number_of high middle low)
number_by _ _ _ = None

abbrev pub number : Search → Option ℕ
number s = number_by s.high s.middle s.low

-- A PAIR: two equal frames, with no other forward frame between them, the second of which ends at
-- most 100 ms after the begin of the first (IEC 62386-101:2014, send-twice forward frames)
abbrev pub repeats : Option First → Forward → Bool
repeats None f = false
repeats (Some first) f = same_frame first.frame f

abbrev pub late_by : Option First → ℕ → Bool
late_by None until = false
late_by (Some first) until = nat_lt 100000 (until - first.at)

abbrev pub completes : Option First → ℕ → Forward → Bool
completes half until f = repeats half f && not (late_by half until)

abbrev pub half_after : Item → Forward → Option First → Option First
half_after x f half =
    if not (is_send_twice (command_of f)) || completes half x.until f
    then None
    else Some (record { frame = f; at = x.at; is_told = repeats half f })

-- AN INITIALISATION lasts 15 minutes (IEC 62386-102:2014, INITIALISE). They are over at a frame for
-- gear in it that begins later; of that is told once.
abbrev pub is_over : Option Begun → ℕ → Forward → Bool
is_over None at f = false
is_over (Some begun) at f =
    not begun.is_told && (in_initialisation f && nat_lt 900000000 (at - begun.until))

abbrev pub noted : Option Begun → Option Begun
noted None = None
noted (Some begun) = Some (record begun { is_told = true })

abbrev pub begun_after : Item → Forward → Option Begun → Option Begun
begun_after x f begun = if is_over begun x.at f then noted begun else begun

-- SEVERAL GEAR AT ONE SEARCH ADDRESS: a damaged answer under it says so, until another answer, or
-- silence, under the same address says otherwise
abbrev pub same_number : Option ℕ → Option ℕ → Bool
same_number None None = true
same_number (Some a) (Some b) = a == b
same_number _ _ = false

abbrev pub told_apart : Option ℕ → Option ℕ → Option ℕ
told_apart search crowded = if same_number crowded search then None else crowded

abbrev pub crowd : Answer → Option ℕ → Option ℕ → Option ℕ
crowd answer.Damaged (Some r) crowded = Some r
crowd answer.Damaged None crowded = told_apart None crowded
crowd answer.Silence search crowded = told_apart search crowded
crowd (answer.Byte byte) search crowded = told_apart search crowded

abbrev pub same_place : Option ℕ → Option ℕ → Bool
same_place (Some a) (Some b) = a == b
same_place _ _ = false

-- several gear were heard under the search address as it is
abbrev pub is_crowded : Bus → Bool
is_crowded b = same_place (number b.search) b.crowded

-- HOW MUCH OF A RANDOM ADDRESS was heard under a short address, by its queries in the order H, M, L
abbrev pub high_heard : ℕ → Answer → Spelled
high_heard a (answer.Byte byte) = spelled.High a byte
high_heard a answer.Silence = spelled.Nothing
high_heard a answer.Damaged = spelled.Nothing

abbrev pub middle_heard : ℕ → Answer → Spelled → Spelled
middle_heard a (answer.Byte byte) (spelled.High b high) =
    if b == a then spelled.Middle a high byte else spelled.Nothing
middle_heard a _ _ = spelled.Nothing

abbrev pub byte_heard : ℕ → Part → Answer → Spelled → Spelled
byte_heard a High heard s = high_heard a heard
byte_heard a Middle heard s = middle_heard a heard s
byte_heard a Low heard s = spelled.Nothing

-- INITIALISE that names gear with a short address lets them draw too
abbrev pub names_addressed : Target → Bool
names_addressed All = true
names_addressed (Addressed a) = true
names_addressed Unaddressed = false

abbrev pub is_all : Target → Bool
is_all All = true
is_all (Addressed a) = false
is_all Unaddressed = false

-- and one that names gear without a short address lets these be searched
abbrev pub names_unaddressed : Target → Bool
names_unaddressed All = true
names_unaddressed Unaddressed = true
names_unaddressed (Addressed a) = false

abbrev pub begins : Item → Begun
begins x = record { at = x.at; until = x.until; is_told = false }

-- WHAT EACH COMMAND CHANGES. `again`: it repeats the half pair that waited; `second`: in time.
abbrev pub begun_by : Target → Bool → Bool → Item → Bus → Bus
begun_by target again second x b = record b {
  begun = if second then Some (begins x) else b.begun;
  is_closed = b.is_closed && not again;
  may_redraw = b.may_redraw || (second && names_addressed target);
  takes_all = b.takes_all || (second && is_all target);
  cut = if names_unaddressed target then None else b.cut;
}

abbrev pub drawn_by : Bool → Item → Bus → Bus
drawn_by second x b = record b {
  drawn = if second then Some x.until else b.drawn;
  crowded = if second then None else b.crowded;
  spelled = spelled.Nothing;
}

abbrev pub heard_by : Answer → Bus → Bus
heard_by heard b = record b { crowded = crowd heard (number b.search) b.crowded }

-- COMPARE AFTER TERMINATE: the silence after it does not say that no gear is left
abbrev pub misled : Bool → ℕ → Answer → Option ℕ → Option ℕ
misled true at answer.Silence None = Some at
misled closed at heard cut = cut

abbrev pub compared_by : Item → Answer → Bus → Bus
compared_by x heard b =
    record (heard_by heard b) { cut = misled b.is_closed x.at heard b.cut }

abbrev pub searched_by : Part → ℕ → Search → Search
searched_by High byte s = record s { high = Some byte }
searched_by Middle byte s = record s { middle = Some byte }
searched_by Low byte s = record s { low = Some byte }

abbrev pub searches : Part → ℕ → Bus → Bus
searches part byte b = record b { search = searched_by part byte b.search }

-- the byte that SET SHORT ADDRESS stores (102, DTR0)
abbrev pub dtr0_after : Forward → Option ℕ → Option ℕ
dtr0_after f before = if f.address_byte == 0xA3 then Some f.opcode_byte else before

abbrev pub sent_by : Command → Bool → Bool → Item → Answer → Bus → Bus
sent_by Terminate again second x heard b =
    record b { begun = None; is_closed = true; may_redraw = false; takes_all = false }
sent_by (Initialise target) again second x heard b = begun_by target again second x b
sent_by Randomise again second x heard b = drawn_by second x b
sent_by Compare again second x heard b = compared_by x heard b
sent_by Withdraw again second x heard b = b
sent_by (SearchHigh byte) again second x heard b = searches High byte b
sent_by (SearchMiddle byte) again second x heard b = searches Middle byte b
sent_by (SearchLow byte) again second x heard b = searches Low byte b
sent_by (Program a) again second x heard b =
    record b { given = Some x.at; spelled = spelled.Nothing; may_redraw = true }
sent_by (Verify a) again second x heard b = b
sent_by QueryShort again second x heard b = heard_by heard b
sent_by (RandomByte a part) again second x heard b =
    record b { spelled = byte_heard a part heard b.spelled }
sent_by (Arc f) again second x heard b = b
sent_by (Other f) again second x heard b = record b { dtr0 = dtr0_after f b.dtr0 }

-- and what every forward frame changes: after an addressing command none is awaited any more, and
-- after one that is no byte of the search address no query is
abbrev pub unless_addressing : Forward → Option ℕ → Option ℕ
unless_addressing f time = if is_addressing f then None else time

abbrev pub acts : Command → Bool
acts c = addresses c && not (is_search c)

abbrev pub unless_acting : Command → Option ℕ → Option ℕ
unless_acting c time = if acts c then None else time

abbrev pub passed : Item → Forward → Bus → Bus
passed x f b = record b {
  half = half_after x f b.half;
  begun = begun_after x f b.begun;
  drawn = unless_addressing f b.drawn;
  given = unless_acting (command_of f) b.given;
}

abbrev pub bus_at_first : Bus
bus_at_first = record {
  search = record { high = None; middle = None; low = None };
  half = None;
  drawn = None;
  begun = None;
  is_closed = false;
  given = None;
  settled = None;
  crowded = None;
  spelled = spelled.Nothing;
  may_redraw = true;
  takes_all = false;
  cut = None;
  dtr0 = None;
}

-- THE BUS AFTER AN ITEM. A frame for other devices ends a half pair; it is not known what a damaged
-- frame was, so that nothing is awaited any more, and an initialisation may be in force.
abbrev pub bus_heard : Item → Seen → Bus → Bus
bus_heard x (seen.Sent f heard) b =
    sent_by (command_of f) (repeats b.half f) (completes b.half x.until f) x heard (passed x f b)
bus_heard x seen.Foreign b = record b { half = None }
bus_heard x seen.Broken b = record b { half = None; given = None; is_closed = false }
bus_heard x seen.Replied b = b
bus_heard x seen.Stray b = b

-- when the last frame was over, from which on the bus settles; of what is damaged it is not known
abbrev pub frame_end : Heard → ℕ → Option ℕ
frame_end (heard.Forward f) until = Some until
frame_end (heard.Backward byte) until = Some until
frame_end heard.Device until = Some until
frame_end heard.Damaged until = None

abbrev pub bus_after : Item → Seen → Bus → Bus
bus_after x s b = record (bus_heard x s b) { settled = frame_end x.what x.until }
