use Rattle.std.specs.Prelude.{ℕ, ◌-◌, Bool, true, false, ◌&&◌, ◌||◌, not, ◌==◌, nat_lt}
use Rattle.std.specs.Prelude.{codes, is_some}
use Rattle.std.specs.Prelude.{Option, Some, None, if◌then◌else◌, List, [], ◌∷◌, ◌++◌}
use Rattle.std.specs.Prelude.{option_map, option_to_list}
use Rattle.std.specs.List.{list_any}
use Rattle.dali_frame.specs.declared.frames.Forward.{Forward}
use Rattle.dali_frame.specs.declared.frames.Answer.TheVariants as answer
use Rattle.dali_special.specs.declared.command.Command.{Command}
use Rattle.dali_special.specs.declared.command.Command.TheVariants.{Terminate, Initialise}
use Rattle.dali_special.specs.declared.command.Command.TheVariants.{Randomise, Compare, Withdraw}
use Rattle.dali_special.specs.declared.command.Command.TheVariants.{SearchHigh, SearchMiddle}
use Rattle.dali_special.specs.declared.command.Command.TheVariants.{SearchLow, Program, Verify}
use Rattle.dali_special.specs.declared.command.Command.TheVariants.{QueryShort, RandomByte}
use Rattle.dali_special.specs.declared.command.Command.TheVariants.{Arc, Other}
use Rattle.dali_special.specs.Command.{command_of, is_question, MASK}
use Rattle.dali_capture.specs.declared.item.Item.{Item}
use Rattle.dali_audit.specs.declared.seen.Seen.{Seen}
use Rattle.dali_audit.specs.declared.seen.Seen.TheVariants as seen
use Rattle.dali_audit.specs.declared.bus.First.{First}
use Rattle.dali_audit.specs.declared.bus.Begun.{Begun}
use Rattle.dali_audit.specs.declared.bus.Bus.{Bus}
use Rattle.dali_audit.specs.declared.holders.Holder.{Holder}
use Rattle.dali_audit.specs.declared.holders.Change.{Change}
use Rattle.dali_audit.specs.declared.holders.Change.TheVariants as change
use Rattle.dali_audit.specs.declared.findings.Kind.{Kind}
use Rattle.dali_audit.specs.declared.findings.Kind.TheVariants as kind
use Rattle.dali_audit.specs.declared.findings.Finding.{Finding}
use Rattle.dali_audit.specs.declared.telling.Known.{Known}
use Rattle.dali_audit.specs.Seen.{seen_of, is_silence}
use Rattle.dali_audit.specs.Bus.{same_frame, acts, is_addressing, for_initialised, repeats}
use Rattle.dali_audit.specs.Bus.{late_by, is_over, is_crowded, number, same_number, bus_after}
use Rattle.dali_audit.specs.Bus.{bus_at_first}
use Rattle.dali_audit.specs.Holders.{change_of, heard_of, is_other, holder_at, is_heard}
use Rattle.dali_audit.specs.Holders.{was_confirmed, is_confirmed, table_after, table_at_first}
use Rattle.dali_audit.specs.Holders.{is_somebody}

-- THE NAMES OF THE FINDINGS. They never change.
abbrev pub kind_name : Kind → List ℕ
kind_name kind.DamagedFrame = codes "damaged-frame"
kind_name kind.DamagedAnswer = codes "damaged-answer"
kind_name kind.UnaskedAnswer = codes "unasked-answer"
kind_name kind.NotInitialised = codes "not-initialised"
kind_name kind.SettlingTime = codes "settling-time"
kind_name kind.HalfPair = codes "half-pair"
kind_name kind.LatePair = codes "late-pair"
kind_name kind.EarlyFrame = codes "early-frame"
kind_name kind.InitialisationOver = codes "initialisation-over"
kind_name kind.NotQueried = codes "not-queried"
kind_name kind.NotFound = codes "not-found"
kind_name kind.SeveralProgrammed = codes "several-programmed"
kind_name kind.AddressTaken = codes "address-taken"
kind_name kind.AddressMoved = codes "address-moved"
kind_name kind.TwoRandomAddresses = codes "two-random-addresses"
kind_name kind.TwoShortAddresses = codes "two-short-addresses"
kind_name kind.Redrawn = codes "redrawn"
kind_name kind.NotAnAddress = codes "not-an-address"
kind_name kind.ResetOfAll = codes "reset-of-all"
kind_name kind.SetForAll = codes "set-for-all"
kind_name kind.CutOff = codes "cut-off"
kind_name kind.NotTerminated = codes "not-terminated"

abbrev pub kinds : List Kind
kinds =
    kind.DamagedFrame ∷ kind.DamagedAnswer ∷ kind.UnaskedAnswer ∷ kind.NotInitialised
    ∷ kind.SettlingTime ∷ kind.HalfPair ∷ kind.LatePair ∷ kind.EarlyFrame ∷ kind.InitialisationOver
    ∷ kind.NotQueried ∷ kind.NotFound ∷ kind.SeveralProgrammed ∷ kind.AddressTaken
    ∷ kind.AddressMoved ∷ kind.TwoRandomAddresses ∷ kind.TwoShortAddresses ∷ kind.Redrawn
    ∷ kind.NotAnAddress ∷ kind.ResetOfAll ∷ kind.SetForAll ∷ kind.CutOff ∷ kind.NotTerminated
    ∷ []

-- THE RULES, each with the time that is told if an item breaks it.

abbrev pub at_where : Bool → ℕ → Option ℕ
at_where holds at = if holds then Some at else None

-- what is on the bus is a frame or an answer (IEC 62386-101:2014, frame structure)
abbrev pub is_broken : Seen → Bool
is_broken seen.Broken = true
is_broken (seen.Sent f heard) = false
is_broken seen.Replied = false
is_broken seen.Stray = false
is_broken seen.Foreign = false

-- no gear answers but where a question is (102, queries and special commands)
abbrev pub is_stray : Seen → Bool
is_stray seen.Stray = true
is_stray (seen.Sent f heard) = false
is_stray seen.Replied = false
is_stray seen.Foreign = false
is_stray seen.Broken = false

-- one gear at the most answers a question, but COMPARE
abbrev pub asks_one : Command → Bool
asks_one Compare = false
asks_one c = is_question c

abbrev pub damaged_answer : Item → Seen → Option ℕ
damaged_answer x (seen.Sent f answer.Damaged) = at_where (asks_one (command_of f)) x.at
damaged_answer x _ = None

-- gear answer COMPARE, VERIFY SHORT ADDRESS and QUERY SHORT ADDRESS in an initialisation alone
-- (102, special commands): not after TERMINATE, until an INITIALISE that they may have taken
abbrev pub asks_initialised : Command → Bool
asks_initialised c = for_initialised c && is_question c

abbrev pub not_initialised : Bus → Item → Seen → Option ℕ
not_initialised b x (seen.Sent f heard) =
    at_where (b.is_closed && (asks_initialised (command_of f) && not (is_silence heard))) x.at
not_initialised b x seen.Replied = None
not_initialised b x seen.Stray = None
not_initialised b x seen.Foreign = None
not_initialised b x seen.Broken = None

-- a forward frame begins at least 13.5 ms after the end of the frame before, which is the settling
-- time of priority 1 (101, multi-master transmitter frame sequence timing); what recorded the bus
-- may tell a tenth less
abbrev pub too_close : Option ℕ → Item → Option ℕ
too_close None x = None
too_close (Some settled) x = at_where (nat_lt (x.at - settled) 12150) x.at

abbrev pub settling_time : Bus → Item → Seen → Option ℕ
settling_time b x (seen.Sent f heard) = too_close b.settled x
settling_time b x seen.Foreign = too_close b.settled x
settling_time b x seen.Replied = None
settling_time b x seen.Stray = None
settling_time b x seen.Broken = None

-- after the first frame of a pair comes its second (101, send-twice forward frames)
abbrev pub breaks : Forward → Seen → Bool
breaks first (seen.Sent f heard) = not (same_frame first f)
breaks first seen.Foreign = true
breaks first seen.Replied = false
breaks first seen.Stray = false
breaks first seen.Broken = false

abbrev pub broken_pair : Option First → Seen → Option ℕ
broken_pair None s = None
broken_pair (Some first) s = at_where (not first.is_told && breaks first.frame s) first.at

abbrev pub half_pair : Bus → Seen → Option ℕ
half_pair b s = broken_pair b.half s

-- and it ends at most 100 ms after the first one began
abbrev pub late_pair : Bus → Item → Seen → Option ℕ
late_pair b x (seen.Sent f heard) = at_where (repeats b.half f && late_by b.half x.until) x.at
late_pair b x seen.Replied = None
late_pair b x seen.Stray = None
late_pair b x seen.Foreign = None
late_pair b x seen.Broken = None

-- gear may take 100 ms to draw a random address (102, RANDOMISE); what recorded the bus may tell a
-- tenth less
abbrev pub too_early : Option ℕ → Item → Seen → Option ℕ
too_early (Some drawn) x (seen.Sent f heard) =
    at_where (is_addressing f && nat_lt (x.at - drawn) 90000) x.at
too_early _ x s = None

abbrev pub early_frame : Bus → Item → Seen → Option ℕ
early_frame b x s = too_early b.drawn x s

-- an initialisation is over after 15 minutes (102, INITIALISE)
abbrev pub initialisation_over : Bus → Item → Seen → Option ℕ
initialisation_over b x (seen.Sent f heard) = at_where (is_over b.begun x.at f) x.at
initialisation_over b x seen.Replied = None
initialisation_over b x seen.Stray = None
initialisation_over b x seen.Foreign = None
initialisation_over b x seen.Broken = None

-- a controller that programs a short address asks for it before it does anything else; it may send
-- the search address once more (this project's profile)
abbrev pub asks_short : Command → Bool
asks_short QueryShort = true
asks_short (Verify a) = true
asks_short (RandomByte a part) = true
asks_short Terminate = false
asks_short (Initialise target) = false
asks_short Randomise = false
asks_short Compare = false
asks_short Withdraw = false
asks_short (SearchHigh byte) = false
asks_short (SearchMiddle byte) = false
asks_short (SearchLow byte) = false
asks_short (Program a) = false
asks_short (Arc f) = false
asks_short (Other f) = false

-- what is for the gear at the search address
abbrev pub needs_search : Command → Bool
needs_search Compare = true
needs_search Withdraw = true
needs_search (Program a) = true
needs_search QueryShort = true
needs_search Terminate = false
needs_search (Initialise target) = false
needs_search Randomise = false
needs_search (SearchHigh byte) = false
needs_search (SearchMiddle byte) = false
needs_search (SearchLow byte) = false
needs_search (Verify a) = false
needs_search (RandomByte a part) = false
needs_search (Arc f) = false
needs_search (Other f) = false

abbrev pub unasked_by : ℕ → Command → Option ℕ
unasked_by given c = at_where (acts c && not (asks_short c)) given

abbrev pub unasked : Option ℕ → Seen → Option ℕ
unasked (Some given) (seen.Sent f heard) = unasked_by given (command_of f)
unasked _ s = None

abbrev pub not_queried : Bus → Seen → Option ℕ
not_queried b s = unasked b.given s

-- PROGRAM SHORT ADDRESS, by what it changes: at the search address
abbrev pub programs_at : Change → Option ℕ
programs_at (change.Given a r) = Some r
programs_at (change.Erased r) = Some r
programs_at change.Nothing = None
programs_at (change.Told a r) = None
programs_at (change.Verified a) = None
programs_at (change.Answered a) = None
programs_at change.Redrawn = None
programs_at (change.Forgotten short) = None

-- it is sent to a gear that was found: in an initialisation that the capture shows from its begin,
-- COMPARE or QUERY SHORT ADDRESS was answered at that search address, or that random address was
-- told under a short address (this project's profile)
abbrev pub is_among : List ℕ → ℕ → Bool
is_among found r = list_any (λ own. own == r) found

abbrev pub is_found : List ℕ → List Holder → ℕ → Bool
is_found found hs r = is_among found r || is_heard r hs

abbrev pub unfound : Option ℕ → Known → Bool
unfound None k = false
unfound (Some r) k = is_some k.bus.begun && not (is_found k.found k.table r)

abbrev pub not_found : Known → Change → Bool
not_found k c = unfound (programs_at c) k

-- and where one gear is (102, PROGRAM SHORT ADDRESS). One damaged answer may come of a disturbance,
-- or of edges out of the standard: several gear answer the question before it and that after it
abbrev pub several_by : Bus → Command → Option ℕ
several_by b c = if asks_short c && is_crowded b then b.given else None

abbrev pub several_programmed : Bus → Seen → Option ℕ
several_programmed b (seen.Sent f answer.Damaged) = several_by b (command_of f)
several_programmed b _ = None

-- a short address is given under which no other gear was heard
abbrev pub address_taken : List Holder → Change → Bool
address_taken hs (change.Given a r) = is_other r (holder_at hs a)
address_taken hs change.Nothing = false
address_taken hs (change.Erased r) = false
address_taken hs (change.Told a r) = false
address_taken hs (change.Verified a) = false
address_taken hs (change.Answered a) = false
address_taken hs change.Redrawn = false
address_taken hs (change.Forgotten short) = false

-- a gear that was given a short address and heard under it keeps it (this project's profile)
abbrev pub address_moved : List Holder → Change → Bool
address_moved hs (change.Given a r) =
    not (was_confirmed r (holder_at hs a)) && is_confirmed r hs
address_moved hs change.Nothing = false
address_moved hs (change.Erased r) = false
address_moved hs (change.Told a r) = false
address_moved hs (change.Verified a) = false
address_moved hs (change.Answered a) = false
address_moved hs change.Redrawn = false
address_moved hs (change.Forgotten short) = false

-- a short address has one random address
abbrev pub is_another : Option ℕ → ℕ → Bool
is_another None r = false
is_another (Some own) r = not (own == r)

abbrev pub two_random : List Holder → Change → Bool
two_random hs (change.Told a r) = is_another (heard_of (holder_at hs a)) r
two_random hs change.Nothing = false
two_random hs (change.Given a r) = false
two_random hs (change.Erased r) = false
two_random hs (change.Verified a) = false
two_random hs (change.Answered a) = false
two_random hs change.Redrawn = false
two_random hs (change.Forgotten short) = false

-- a random address has one short address
abbrev pub two_short : List Holder → Change → Bool
two_short hs (change.Told a r) =
    not (same_number (heard_of (holder_at hs a)) (Some r)) && is_heard r hs
two_short hs change.Nothing = false
two_short hs (change.Given a r) = false
two_short hs (change.Erased r) = false
two_short hs (change.Verified a) = false
two_short hs (change.Answered a) = false
two_short hs change.Redrawn = false
two_short hs (change.Forgotten short) = false

-- once gear have short addresses, not all gear draw new random addresses: by these they are found
-- again (this project's profile)
abbrev pub redraws : Known → Change → Bool
redraws k change.Redrawn = k.bus.takes_all && list_any is_somebody k.table
redraws k change.Nothing = false
redraws k (change.Given a r) = false
redraws k (change.Erased r) = false
redraws k (change.Told a r) = false
redraws k (change.Verified a) = false
redraws k (change.Answered a) = false
redraws k (change.Forgotten short) = false

-- PROGRAM SHORT ADDRESS has a short address in its second byte, or MASK: gear take no other one
-- (102, PROGRAM SHORT ADDRESS), so that frame is no command of the table
abbrev pub is_misspelled : Command → Bool
is_misspelled (Other f) = f.address_byte == 0xB7
is_misspelled _ = false

abbrev pub not_an_address : Item → Seen → Option ℕ
not_an_address x (seen.Sent f heard) = at_where (is_misspelled (command_of f)) x.at
not_an_address x seen.Replied = None
not_an_address x seen.Stray = None
not_an_address x seen.Foreign = None
not_an_address x seen.Broken = None

-- RESET, and SET SHORT ADDRESS with a short address, go to one gear at a time (this project's
-- profile): of all gear the one takes the random addresses, the other gives all one short address
abbrev pub is_to_all : ℕ → Command → Bool
is_to_all opcode (Other f) = (f.address_byte == 0xFF) && (f.opcode_byte == opcode)
is_to_all opcode _ = false

-- by MASK in DTR0 it takes the short addresses of all away
abbrev pub erases : Option ℕ → Bool
erases None = false
erases (Some byte) = byte == MASK

abbrev pub reset_of_all : Item → Seen → Option ℕ
reset_of_all x (seen.Sent f heard) = at_where (is_to_all 0x20 (command_of f)) x.at
reset_of_all x seen.Replied = None
reset_of_all x seen.Stray = None
reset_of_all x seen.Foreign = None
reset_of_all x seen.Broken = None

abbrev pub set_for_all : Bus → Item → Seen → Option ℕ
set_for_all b x (seen.Sent f heard) =
    at_where (is_to_all 0x80 (command_of f) && not (erases b.dtr0)) x.at
set_for_all b x seen.Replied = None
set_for_all b x seen.Stray = None
set_for_all b x seen.Foreign = None
set_for_all b x seen.Broken = None

-- the controller that begins an initialisation ends it (102, TERMINATE): told when the capture ends
abbrev pub begun_at : Option Begun → Option ℕ
begun_at None = None
begun_at (Some begun) = Some begun.at

abbrev pub not_terminated : Bus → Option ℕ
not_terminated b = begun_at b.begun

abbrev pub told_at : Kind → Known → Item → Seen → Option ℕ
told_at kind.DamagedFrame k x s = at_where (is_broken s) x.at
told_at kind.DamagedAnswer k x s = damaged_answer x s
told_at kind.UnaskedAnswer k x s = at_where (is_stray s) x.at
told_at kind.NotInitialised k x s = not_initialised k.bus x s
told_at kind.SettlingTime k x s = settling_time k.bus x s
told_at kind.HalfPair k x s = half_pair k.bus s
told_at kind.LatePair k x s = late_pair k.bus x s
told_at kind.EarlyFrame k x s = early_frame k.bus x s
told_at kind.InitialisationOver k x s = initialisation_over k.bus x s
told_at kind.NotQueried k x s = not_queried k.bus s
told_at kind.NotFound k x s = at_where (not_found k (change_of k.bus x s)) x.at
told_at kind.SeveralProgrammed k x s = several_programmed k.bus s
told_at kind.AddressTaken k x s = at_where (address_taken k.table (change_of k.bus x s)) x.at
told_at kind.AddressMoved k x s = at_where (address_moved k.table (change_of k.bus x s)) x.at
told_at kind.TwoRandomAddresses k x s = at_where (two_random k.table (change_of k.bus x s)) x.at
told_at kind.TwoShortAddresses k x s = at_where (two_short k.table (change_of k.bus x s)) x.at
told_at kind.Redrawn k x s = at_where (redraws k (change_of k.bus x s)) x.at
told_at kind.NotAnAddress k x s = not_an_address x s
told_at kind.ResetOfAll k x s = reset_of_all x s
told_at kind.SetForAll k x s = set_for_all k.bus x s
told_at kind.CutOff k x s = None
told_at kind.NotTerminated k x s = None

-- WHAT IS TOLD OF AN ITEM: each rule that it breaks
abbrev pub told_by : Kind → Option ℕ → List Finding
told_by kind told = option_to_list (option_map (λ at. record { at = at; kind = kind }) told)

abbrev pub told_of : Known → Item → Seen → List Kind → List Finding
told_of k x s [] = []
told_of k x s (kind ∷ more) = told_by kind (told_at kind k x s) ++ told_of k x s more

-- WHAT A CAPTURE TELLS up to an item
abbrev pub known_at_first : Known
known_at_first = record { bus = bus_at_first; table = table_at_first; found = [] }

-- the search address at which gear answer a question
abbrev pub found_at : Bus → Seen → Option ℕ
found_at b (seen.Sent f heard) =
    if needs_search (command_of f) && not (is_silence heard) then number b.search else None
found_at b seen.Replied = None
found_at b seen.Stray = None
found_at b seen.Foreign = None
found_at b seen.Broken = None

abbrev pub known_after : Item → Seen → Known → Known
known_after x s k = record {
  bus = bus_after x s k.bus;
  table = table_after (change_of k.bus x s) k.table;
  found = k.found ++ option_to_list (found_at k.bus s);
}

-- WHAT IS TOLD OF A CAPTURE: of each item, by what the items before it tell; and last of its end
abbrev pub first_of : List Item → Option Item
first_of [] = None
first_of (x ∷ xs) = Some x

-- when it ends: that a search was cut off, and no other one followed, and that an initialisation
-- has no end. A controller that sends COMPARE after the TERMINATE of another one takes it that no
-- gear is left (this project's profile).
abbrev pub told_of_end : Bus → List Finding
told_of_end b = told_by kind.CutOff b.cut ++ told_by kind.NotTerminated (not_terminated b)

abbrev pub findings_from : Known → Option Item → List Item → List Finding
findings_from k before [] = told_of_end k.bus
findings_from k before (x ∷ xs) =
    told_of k x (seen_of before x (first_of xs)) kinds
    ++ findings_from (known_after x (seen_of before x (first_of xs)) k) (Some x) xs

abbrev pub findings_in : List Item → List Finding
findings_in xs = findings_from known_at_first None xs

-- and what is known after all of it
abbrev pub known_from : Known → Option Item → List Item → Known
known_from k before [] = k
known_from k before (x ∷ xs) =
    known_from (known_after x (seen_of before x (first_of xs)) k) (Some x) xs

abbrev pub known_in : List Item → Known
known_in xs = known_from known_at_first None xs
