use Rattle.std.specs.Prelude.{ℕ, Bool, true, false, ◌&&◌, ◌||◌, not, ◌==◌, nat_lt, nat_le}
use Rattle.std.specs.Prelude.{Option, Some, None, if◌then◌else◌, List, map, replicate}
use Rattle.std.specs.Prelude.{slice_index_or, slice_set}
use Rattle.std.specs.List.{list_any}
use Rattle.dali_frame.specs.declared.frames.Forward.{Forward}
use Rattle.dali_frame.specs.declared.frames.Answer.{Answer}
use Rattle.dali_frame.specs.declared.frames.Answer.TheVariants as answer
use Rattle.dali_frame.specs.Random.{number_of, MASK24}
use Rattle.dali_frame.specs.Short.{short_of}
use Rattle.dali_special.specs.declared.command.Part.{Part}
use Rattle.dali_special.specs.declared.command.Part.TheVariants.{High, Middle, Low}
use Rattle.dali_special.specs.declared.command.Command.{Command}
use Rattle.dali_special.specs.declared.command.Command.TheVariants.{Terminate, Initialise}
use Rattle.dali_special.specs.declared.command.Command.TheVariants.{Randomise, Compare, Withdraw}
use Rattle.dali_special.specs.declared.command.Command.TheVariants.{SearchHigh, SearchMiddle}
use Rattle.dali_special.specs.declared.command.Command.TheVariants.{SearchLow, Program, Verify}
use Rattle.dali_special.specs.declared.command.Command.TheVariants.{QueryShort, RandomByte}
use Rattle.dali_special.specs.declared.command.Command.TheVariants.{Arc, Other}
use Rattle.dali_special.specs.Command.{command_of}
use Rattle.dali_capture.specs.declared.item.Item.{Item}
use Rattle.dali_audit.specs.declared.seen.Seen.{Seen}
use Rattle.dali_audit.specs.declared.seen.Seen.TheVariants as seen
use Rattle.dali_audit.specs.declared.bus.Spelled.{Spelled}
use Rattle.dali_audit.specs.declared.bus.Spelled.TheVariants as spelled
use Rattle.dali_audit.specs.declared.bus.Bus.{Bus}
use Rattle.dali_audit.specs.declared.holders.Holder.{Holder}
use Rattle.dali_audit.specs.declared.holders.Holder.TheVariants as holder
use Rattle.dali_audit.specs.declared.holders.Change.{Change}
use Rattle.dali_audit.specs.declared.holders.Change.TheVariants as change
use Rattle.dali_audit.specs.Bus.{number, completes, same_number}

-- WHAT A FRAME CHANGES OF WHO HAS WHICH SHORT ADDRESS, by what was heard after it.

-- PROGRAM SHORT ADDRESS, at the search address
abbrev pub program_change : Option ℕ → Option ℕ → Change
program_change (Some r) (Some a) = change.Given a r
program_change (Some r) None = change.Erased r
program_change None short = change.Nothing

-- QUERY SHORT ADDRESS, at the search address: the gear there tells its short address
abbrev pub pair_told : Option ℕ → Option ℕ → Change
pair_told (Some r) (Some a) = change.Told a r
pair_told _ _ = change.Nothing

abbrev pub short_change : Option ℕ → Answer → Change
short_change search (answer.Byte byte) = pair_told search (short_of byte)
short_change search answer.Silence = change.Nothing
short_change search answer.Damaged = change.Nothing

-- QUERY RANDOM ADDRESS (L), after (H) and (M) were answered under the same short address: the gear
-- there tells its random address, if it drew one. Else an unknown gear answers. A damaged
-- answer may be a disturbance, where no gear is.
abbrev pub number_told : ℕ → ℕ → Change
number_told a r = if r == MASK24 then change.Answered a else change.Told a r

abbrev pub low_change : Spelled → ℕ → ℕ → Change
low_change (spelled.Middle b high middle) a low =
    if b == a then number_told a (number_of high middle low) else change.Answered a
low_change (spelled.High b high) a low = change.Answered a
low_change spelled.Nothing a low = change.Answered a

abbrev pub byte_change : Spelled → ℕ → Part → Answer → Change
byte_change s a part answer.Silence = change.Nothing
byte_change s a part answer.Damaged = change.Nothing
byte_change s a Low (answer.Byte byte) = low_change s a byte
byte_change s a High (answer.Byte byte) = change.Answered a
byte_change s a Middle (answer.Byte byte) = change.Answered a

-- VERIFY SHORT ADDRESS
abbrev pub verify_change : ℕ → Answer → Change
verify_change a answer.Silence = change.Nothing
verify_change a (answer.Byte byte) = change.Verified a
verify_change a answer.Damaged = change.Nothing

-- RESET and SET SHORT ADDRESS, to a short address, to a group or to all (IEC 62386-102:2014,
-- configuration instructions): what was known of these gear is known no more
abbrev pub names_several : ℕ → Bool
names_several byte = (byte == 0xFF) || (nat_le 0x80 byte && nat_lt byte 0xA0)

abbrev pub forgets_of : Option ℕ → ℕ → Change
forgets_of (Some a) byte = change.Forgotten (Some a)
forgets_of None byte = if names_several byte then change.Forgotten None else change.Nothing

abbrev pub forgets : Forward → Change
forgets f =
    if (f.opcode_byte == 0x20) || (f.opcode_byte == 0x80)
    then forgets_of (short_of f.address_byte) f.address_byte
    else change.Nothing

abbrev pub change_by_command : Command → Bool → Answer → Bus → Change
change_by_command (Program short) second heard b = program_change (number b.search) short
change_by_command QueryShort second heard b = short_change (number b.search) heard
change_by_command (RandomByte a part) second heard b = byte_change b.spelled a part heard
change_by_command (Verify a) second heard b = verify_change a heard
change_by_command Randomise second heard b =
    if b.may_redraw && second then change.Redrawn else change.Nothing
change_by_command (Other f) second heard b = forgets f
change_by_command (Arc f) second heard b = change.Nothing
change_by_command Terminate second heard b = change.Nothing
change_by_command (Initialise target) second heard b = change.Nothing
change_by_command Compare second heard b = change.Nothing
change_by_command Withdraw second heard b = change.Nothing
change_by_command (SearchHigh byte) second heard b = change.Nothing
change_by_command (SearchMiddle byte) second heard b = change.Nothing
change_by_command (SearchLow byte) second heard b = change.Nothing

abbrev pub change_by : Bus → Item → Forward → Answer → Change
change_by b x f heard = change_by_command (command_of f) (completes b.half x.until f) heard b

abbrev pub change_of : Bus → Item → Seen → Change
change_of b x (seen.Sent f heard) = change_by b x f heard
change_of b x seen.Replied = change.Nothing
change_of b x seen.Stray = change.Nothing
change_of b x seen.Foreign = change.Nothing
change_of b x seen.Broken = change.Nothing

-- WHO HAS A SHORT ADDRESS, as far as the capture shows.

abbrev pub random_of : Holder → Option ℕ
random_of holder.Nobody = None
random_of holder.Somebody = None
random_of (holder.Programmed r) = Some r
random_of (holder.Answered r) = Some r
random_of (holder.Verified r) = Some r

-- the random address of a gear that was heard
abbrev pub heard_of : Holder → Option ℕ
heard_of holder.Nobody = None
heard_of holder.Somebody = None
heard_of (holder.Programmed r) = None
heard_of (holder.Answered r) = Some r
heard_of (holder.Verified r) = Some r

-- gear was heard that is not known to be the gear with this random address
abbrev pub is_other : ℕ → Holder → Bool
is_other r holder.Somebody = true
is_other r (holder.Answered own) = not (own == r)
is_other r (holder.Verified own) = not (own == r)
is_other r holder.Nobody = false
is_other r (holder.Programmed own) = false

-- it was programmed at this search address
abbrev pub was_given : ℕ → Holder → Bool
was_given r (holder.Programmed own) = own == r
was_given r (holder.Verified own) = own == r
was_given r holder.Nobody = false
was_given r holder.Somebody = false
was_given r (holder.Answered own) = false

abbrev pub given : ℕ → Holder → Holder
given r h = if same_number (heard_of h) (Some r) then h else holder.Programmed r

-- a gear gets another short address, or none
abbrev pub left_by : ℕ → Holder → Holder
left_by r h = if same_number (random_of h) (Some r) then holder.Nobody else h

abbrev pub told : ℕ → Holder → Holder
told r (holder.Programmed own) = if own == r then holder.Verified r else holder.Answered r
told r (holder.Verified own) = if own == r then holder.Verified r else holder.Answered r
told r (holder.Answered own) = holder.Answered r
told r holder.Nobody = holder.Answered r
told r holder.Somebody = holder.Answered r

-- a gear was heard under another short address than the one that was programmed
abbrev pub passed_on : ℕ → Holder → Holder
passed_on r (holder.Programmed own) = if own == r then holder.Nobody else holder.Programmed own
passed_on r h = h

abbrev pub answered : Holder → Holder
answered holder.Nobody = holder.Somebody
answered h = h

abbrev pub verified : Holder → Holder
verified holder.Nobody = holder.Somebody
verified (holder.Programmed r) = holder.Verified r
verified h = h

abbrev pub redrawn : Holder → Holder
redrawn holder.Nobody = holder.Nobody
redrawn _ = holder.Somebody

-- the gear with the short address of which a change tells
abbrev pub renewed : Change → Holder → Holder
renewed (change.Given a r) h = given r h
renewed (change.Told a r) h = told r h
renewed (change.Verified a) h = verified h
renewed (change.Answered a) h = answered h
renewed (change.Forgotten short) h = holder.Nobody
renewed change.Nothing h = h
renewed (change.Erased r) h = h
renewed change.Redrawn h = h

-- the gear with any other
abbrev pub swept : Change → Holder → Holder
swept (change.Given a r) h = left_by r h
swept (change.Erased r) h = left_by r h
swept (change.Told a r) h = passed_on r h
swept change.Redrawn h = redrawn h
swept (change.Forgotten None) h = holder.Nobody
swept (change.Forgotten (Some a)) h = h
swept change.Nothing h = h
swept (change.Verified a) h = h
swept (change.Answered a) h = h

-- the short address of which a change tells
abbrev pub short_in : Change → Option ℕ
short_in (change.Given a r) = Some a
short_in (change.Told a r) = Some a
short_in (change.Verified a) = Some a
short_in (change.Answered a) = Some a
short_in (change.Forgotten short) = short
short_in change.Nothing = None
short_in (change.Erased r) = None
short_in change.Redrawn = None

abbrev pub table_at_first : List Holder
table_at_first = replicate 64 holder.Nobody

-- who has the short address a
abbrev pub holder_at : List Holder → ℕ → Holder
holder_at hs a = slice_index_or hs a holder.Nobody

-- it was programmed at this search address, and then heard
abbrev pub was_confirmed : ℕ → Holder → Bool
was_confirmed r (holder.Verified own) = own == r
was_confirmed r (holder.Programmed own) = false
was_confirmed r (holder.Answered own) = false
was_confirmed r holder.Nobody = false
was_confirmed r holder.Somebody = false

-- gear has it, as far as is known
abbrev pub is_somebody : Holder → Bool
is_somebody holder.Nobody = false
is_somebody holder.Somebody = true
is_somebody (holder.Programmed r) = true
is_somebody (holder.Answered r) = true
is_somebody (holder.Verified r) = true

-- a gear with this random address was heard under some short address
abbrev pub is_heard : ℕ → List Holder → Bool
is_heard r hs = list_any (λ h. same_number (heard_of h) (Some r)) hs

-- one with it was programmed under some short address, and then heard there
abbrev pub is_confirmed : ℕ → List Holder → Bool
is_confirmed r hs = list_any (was_confirmed r) hs

-- WHO HAS EACH SHORT ADDRESS AFTER A CHANGE
abbrev pub table_with : Option ℕ → Change → List Holder → List Holder
table_with None c hs = map (swept c) hs
table_with (Some a) c hs = slice_set (map (swept c) hs) a (renewed c (holder_at hs a))

abbrev pub table_after : Change → List Holder → List Holder
table_after c hs = table_with (short_in c) c hs
