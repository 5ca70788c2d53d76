use Rattle.std.specs.Prelude.{ℕ, zero, suc, ◌+◌, ◌-◌, ◌==◌, Bool, true, false, not, ◌&&◌, ◌||◌}
use Rattle.std.specs.Prelude.{List, [], ◌∷◌, Option, Some, None, is_some, if◌then◌else◌}
use Rattle.dali_frame.specs.declared.frames.Answer.{Answer}
use Rattle.dali_frame.specs.declared.frames.Answer.TheVariants.{Silence}
use Rattle.dali_frame.specs.declared.numbers.SearchAddress.{SearchAddress}
use Rattle.dali_frame.specs.Random.{high_of, middle_of, low_of}
use Rattle.dali_special.specs.declared.command.Command.{Command}
use Rattle.dali_special.specs.declared.command.Target.TheVariants.{Unaddressed}
use Rattle.dali_special.specs.declared.command.Command.TheVariants.{Terminate, Initialise}
use Rattle.dali_special.specs.declared.command.Command.TheVariants.{Randomise, Compare, Withdraw}
use Rattle.dali_special.specs.declared.command.Command.TheVariants.{SearchHigh, SearchMiddle}
use Rattle.dali_special.specs.declared.command.Command.TheVariants.{SearchLow, QueryShort}
use Rattle.dali_special.specs.declared.command.Command.TheVariants.{RandomByte}
use Rattle.dali_special.specs.declared.command.Part.TheVariants.{High, Middle, Low}
use Rattle.dali_script.specs.declared.stage.Stage.{Stage}
use Rattle.dali_script.specs.declared.stage.Stage.TheVariants.{Terminated, InitialisedOnce}
use Rattle.dali_script.specs.declared.stage.Stage.TheVariants.{Initialised, RandomisedOnce}
use Rattle.dali_script.specs.declared.stage.Stage.TheVariants.{WokenHigh, WokenLow, WokenMiddle}
use Rattle.dali_script.specs.declared.stage.Stage.TheVariants.{DrawFree}
use Rattle.dali_script.specs.declared.stage.Stage.TheVariants.{HighSent, MiddleSent}
use Rattle.dali_script.specs.declared.stage.Stage.TheVariants.{NumberSent, LowSent, Hunted}
use Rattle.dali_script.specs.declared.stage.Stage.TheVariants.{Found as Named, Programmed}
use Rattle.dali_script.specs.declared.stage.Stage.TheVariants.{Confirmed, HighAsked, MiddleAsked}
use Rattle.dali_script.specs.Records.{Assignment, Kept}
use Rattle.dali_search.specs.declared.step.Step.{Step}
use Rattle.dali_search.specs.declared.step.Step.TheVariants.{Again, Found, Nobody}
use Rattle.dali_search.specs.Least.{Search, at_first, answered}
use Rattle.dali_search.specs.Ascending.{Ascent, ascent_at_first, asked_next}
use Rattle.dali_search.specs.Ascending.{begun_anew, gone_on, one_if, ascended}
use Rattle.dali_script.specs.declared.orders.End.{End}
use Rattle.dali_script.specs.declared.orders.End.TheVariants.{AllFound}
use Rattle.dali_controller.specs.declared.purpose.Purpose.{Purpose}
use Rattle.dali_controller.specs.declared.purpose.Purpose.TheVariants.{Opening, Probing, Visiting}
use Rattle.dali_controller.specs.declared.purpose.Purpose.TheVariants.{Resolving, Closing}
use Rattle.dali_controller.specs.declared.purpose.Purpose.TheVariants.{Asking, Hunting, Calling}
use Rattle.dali_controller.specs.declared.purpose.Purpose.TheVariants.{Drawing, PassingOver}
use Rattle.dali_controller.specs.declared.shorts.Shorts.{Shorts}
use Rattle.dali_controller.specs.declared.tally.Tally.{Tally}
use Rattle.dali_controller.specs.declared.way.Way.{Way}
use Rattle.dali_controller.specs.declared.way.Way.TheVariants.{Fresh, Surveying}
use Rattle.dali_controller.specs.Shorts.{has_short}
use Rattle.dali_controller.specs.Tally.{uncounted, served}
use Rattle.dali_controller.specs.Tally.{drew, drew_at_last, asked_again, missed_by, passed_over}
use Rattle.dali_frame.specs.Random.{value_of}

-- THE COURSE of a machine: what its running transaction is for, and under which search address; its
-- search, and in a survey the one that goes up; in the visits before the opening, or while short
-- addresses are asked, the first one that was not looked at, and 64 once gear are searched; how it
-- began; whether gear are searched; and what a survey has counted.
pub record Course : Type 0 where
  pub purpose : Purpose
  pub number : SearchAddress
  pub search : Search
  pub ascent : Ascent
  pub from : ℕ
  pub way : Way
  pub opened : Bool
  pub tally : Tally

-- the end with which a close was begun
abbrev pub closing_of : Purpose → Option End
closing_of (Closing e) = Some e
closing_of _ = None

-- the search address of a number
abbrev pub sought : ℕ → SearchAddress
sought n = record { high = high_of n; middle = middle_of n; low = low_of n }

-- before the start
abbrev pub course_at_first : Course
course_at_first = record {
  purpose = Opening;
  number = sought 0xFFFFFF;
  search = at_first;
  ascent = ascent_at_first;
  from = 0;
  way = Fresh;
  opened = false;
  tally = uncounted;
}

-- the first command of a transaction
abbrev pub first_of : Purpose → SearchAddress → Command
first_of Opening n = Terminate
first_of Calling n = Terminate
first_of Drawing n = Terminate
first_of (Closing e) n = Terminate
first_of (Resolving a) n = RandomByte a High
first_of (Asking a) n = RandomByte a High
first_of _ n = SearchHigh n.high

-- THE TURN: which command a transaction sends at a stage past the first, except PROGRAM SHORT
-- ADDRESS
abbrev pub search_turn : SearchAddress → Stage → Option Command
search_turn n (HighSent high) = Some (SearchMiddle n.middle)
search_turn n (MiddleSent high middle) = Some (SearchLow n.low)
search_turn n _ = None

-- in a hunt the first search byte that is not yet that of the number, and COMPARE once all are
abbrev pub byte_to_send : SearchAddress → SearchAddress → Command
byte_to_send n r =
    if r.high == n.high
    then (if r.low == n.low
    then (if r.middle == n.middle then Compare else SearchMiddle n.middle)
    else SearchLow n.low)
    else SearchHigh n.high

-- how many search bytes are not yet those of the number
abbrev pub bytes_to_send : SearchAddress → SearchAddress → ℕ
bytes_to_send n r =
    one_if (not (r.high == n.high)) + one_if (not (r.low == n.low))
    + one_if (not (r.middle == n.middle))

-- in a roll call COMPARE, and once more if the first was silent
abbrev pub call_turn : Option Answer → ℕ → Option Command
call_turn None left = Some Compare
call_turn (Some Silence) left = if left == 1 then Some Compare else None
call_turn (Some h) left = None

abbrev pub turn_of : Purpose → SearchAddress → Stage → Option Command
turn_of Opening n Terminated = Some (Initialise Unaddressed)
turn_of Opening n InitialisedOnce = Some (Initialise Unaddressed)
turn_of Opening n Initialised = Some Randomise
turn_of Opening n RandomisedOnce = Some Randomise
turn_of Probing n (NumberSent r) = Some Compare
turn_of Probing n s = search_turn n s
turn_of Hunting n (HighSent high) = Some (SearchLow n.low)
turn_of Hunting n (LowSent high low) = Some (SearchMiddle n.middle)
turn_of Hunting n (Hunted r None left) = Some (byte_to_send n r)
turn_of Visiting n (NumberSent r) = Some QueryShort
turn_of Visiting n (Named r b) = Some Withdraw
turn_of Visiting n (Programmed r a) = Some QueryShort
turn_of Visiting n (Confirmed r a) = Some Withdraw
turn_of Visiting n s = search_turn n s
turn_of (Resolving a) n (HighAsked b high) = Some (RandomByte b Middle)
turn_of (Resolving a) n (MiddleAsked b bytes) = Some (RandomByte b Low)
turn_of (Asking a) n (HighAsked b (Some high)) = Some (RandomByte b Middle)
turn_of (Asking a) n (MiddleAsked b (Some bytes)) = Some (RandomByte b Low)
turn_of Calling n Terminated = Some (Initialise Unaddressed)
turn_of Calling n InitialisedOnce = Some (Initialise Unaddressed)
turn_of Calling n Initialised = Some (SearchHigh n.high)
turn_of Calling n (WokenHigh high) = Some (SearchLow n.low)
turn_of Calling n (WokenLow high low) = Some (SearchMiddle n.middle)
turn_of Calling n (Hunted r last left) = call_turn last left
turn_of Drawing n Terminated = Some (Initialise Unaddressed)
turn_of Drawing n InitialisedOnce = Some (Initialise Unaddressed)
turn_of Drawing n Initialised = Some (SearchHigh n.high)
turn_of Drawing n (WokenHigh high) = Some (SearchMiddle n.middle)
turn_of Drawing n (WokenMiddle high middle) = Some Compare
turn_of Drawing n DrawFree = Some Randomise
turn_of Drawing n RandomisedOnce = Some Randomise
turn_of PassingOver n (NumberSent r) = Some Withdraw
turn_of PassingOver n s = search_turn n s
turn_of _ n _ = None

-- ---------------------------------------------------------------- the transactions that begin

abbrev pub taking : Course → Purpose → SearchAddress → Course
taking c p n = record c { purpose = p; number = n }

abbrev pub opening : Course → Course
opening c = taking c Opening c.number

-- under the number that the search asks next
abbrev pub probing : Course → Course
probing c = taking c Probing (sought c.search.probe)

-- Once gear are searched no short address is visited before the opening, or asked, any more.
abbrev pub searching_anew : Course → Course
searching_anew c = probing (record c { search = at_first; from = 64; opened = true })

-- under the number that the search that goes up asks next
abbrev pub hunting : Course → Course
hunting c = taking c Hunting (sought (asked_next c.ascent))

abbrev pub hunting_first : Course → Course
hunting_first c = hunting (record c { ascent = ascent_at_first })

-- above who was found: once it was withdrawn with its short address, or passed over
abbrev pub hunting_above : Course → Course
hunting_above c = hunting (record c { ascent = gone_on c.ascent })

abbrev pub hunting_on : Course → Course
hunting_on c = hunting_above (record c { tally = served c.tally })

abbrev pub visiting : Course → ℕ → Course
visiting c r = taking c Visiting (sought r)

abbrev pub resolving : Course → ℕ → SearchAddress → Course
resolving c a n = taking c (Resolving a) n

abbrev pub closing : Course → End → Course
closing c e = taking c (Closing e) c.number

-- a short address is asked for its random address
abbrev pub asking : Course → ℕ → Course
asking c a = taking (record c { from = a + 1 }) (Asking a) c.number

-- the roll is called: all gear without short address are asked, also those that never drew
abbrev pub calling : Course → Course
calling c = taking c Calling (sought 0xFFFFFF)

-- for the first time, once all short addresses were asked
abbrev pub calling_first : Course → Course
calling_first c = calling (record c { ascent = ascent_at_first; from = 64; opened = true })

-- gear draw random addresses, unless gear is heard under FFFExx; xx is as it was sent last
abbrev pub drawing : Course → Course
drawing c = taking (record c { tally = drew c.tally }) Drawing (sought 0xFFFEFE)

-- gear without short address draw new random addresses, whichever they have
abbrev pub opening_anew : Course → Course
opening_anew c = opening (record c { tally = drew c.tally })

-- and the last time
abbrev pub opening_at_last : Course → Course
opening_at_last c = opening (record c { tally = drew_at_last c.tally })

-- whose visit failed twice is passed over
abbrev pub passing_over : Course → Course
passing_over c =
    taking (record c { tally = passed_over c.tally (value_of c.number) }) PassingOver c.number

-- no gear answered under the number that was found: the search that goes up begins anew
abbrev pub missed : Course → Course
missed c =
    hunting (record c {
      ascent = begun_anew c.ascent;
      tally = missed_by c.tally (value_of c.number);
    })

-- ---------------------------------------------------------------- a search that is answered

-- an answer to COMPARE is a yes, unless it is silence
abbrev pub is_yes : Answer → Bool
is_yes Silence = false
is_yes _ = true

-- what an answer leads to: the next probe, a visit to who was found, or the close
abbrev pub after_step : Step → Course → Course
after_step Again c = probing c
after_step (Found r) c = visiting c r
after_step Nobody c = closing c AllFound

abbrev pub probed : Course → Answer → Course
probed c h =
    after_step (answered c.search (is_yes h)).step
    (record c { search = answered c.search (is_yes h) })

abbrev pub hunted : Course → Answer → Course
hunted c h = record c { ascent = ascended c.ascent (is_yes h) }

-- ---------------------------------------------------------------- what is unfinished

-- the number of the pair with an address, and the address of the pair with a number
abbrev pub number_at : List Assignment → ℕ → Option ℕ
number_at [] a = None
number_at (p ∷ ps) a = if p.0 == a then Some p.1 else number_at ps a

abbrev pub address_for : List Assignment → ℕ → Option ℕ
address_for [] r = None
address_for (p ∷ ps) r = if p.1 == r then Some p.0 else address_for ps r

-- a reservation is unfinished while its number is not enrolled
abbrev pub unless_enrolled : List Assignment → Option ℕ → Option ℕ
unless_enrolled enrolled None = None
unless_enrolled enrolled (Some r) = if is_some (address_for enrolled r) then None else Some r

abbrev pub unfinished_at : Kept → ℕ → Option ℕ
unfinished_at k a = unless_enrolled k.enrolled (number_at k.reserved a)

-- among so many short addresses from one on the least with an unfinished reservation: the address
-- after it, and the number
abbrev pub here_or_later : ℕ → Option ℕ → Option (ℕ × ℕ) → Option (ℕ × ℕ)
here_or_later a (Some r) later = Some (a + 1, r)
here_or_later a None later = later

abbrev pub unfinished_among : Kept → ℕ → ℕ → Option (ℕ × ℕ)
unfinished_among k zero a = None
unfinished_among k (suc n) a =
    here_or_later a (unfinished_at k a) (unfinished_among k n (a + 1))

abbrev pub next_unfinished : Kept → ℕ → Option (ℕ × ℕ)
next_unfinished k from = unfinished_among k (64 - from) from

-- ---------------------------------------------------------------- what a survey asks

-- a short address is asked if the table does not name it, and if it is reserved
abbrev pub is_asked : Kept → ℕ → Bool
is_asked k a = not (is_some (number_at k.enrolled a)) || is_some (number_at k.reserved a)

-- among so many short addresses from one on the least that is asked
abbrev pub asked_among : Kept → ℕ → ℕ → Option ℕ
asked_among k zero a = None
asked_among k (suc n) a = if is_asked k a then Some a else asked_among k n (a + 1)

abbrev pub next_asked : Kept → ℕ → Option ℕ
next_asked k from = asked_among k (64 - from) from

-- ---------------------------------------------------------------- what a survey gives

-- A short address is open if it is neither reserved nor enrolled, and no other gear was heard
-- under it.
abbrev pub is_open : Kept → Shorts → ℕ → Bool
is_open k heard a =
    not (is_some (number_at k.reserved a)) && not (is_some (number_at k.enrolled a))
    && not (has_short heard a)

-- the least of the block that is open
abbrev pub open_among : Kept → Shorts → ℕ → ℕ → Option ℕ
open_among k heard zero a = None
open_among k heard (suc n) a = if is_open k heard a then Some a else open_among k heard n (a + 1)

abbrev pub least_open : Kept → Shorts → Option ℕ
least_open k heard = open_among k heard (k.block.last + 1 - k.block.first) k.block.first

-- What is reserved for a number is another's if some other gear was heard under it: one that
-- told no number, or one that is enrolled.
abbrev pub is_another : ℕ → Option ℕ → Bool
is_another r None = false
is_another r (Some n) = not (n == r)

abbrev pub is_anothers : Kept → Shorts → ℕ → ℕ → Bool
is_anothers k heard a r = has_short heard a || is_another r (number_at k.enrolled a)

-- ---------------------------------------------------------------- to go on

-- Before an opening was complete a visit to the next unfinished reservation, or the opening if
-- there is none; in a survey the next short address is asked, and if there is none the roll is
-- called. Afterwards a new search, and in a survey the one that goes up goes on.
abbrev pub visit_or_opening : Course → Option (ℕ × ℕ) → Course
visit_or_opening c None = opening c
visit_or_opening c (Some next) = visiting (record c { from = next.0 }) next.1

abbrev pub ask_or_call : Course → Option ℕ → Course
ask_or_call c None = calling_first c
ask_or_call c (Some a) = asking c a

abbrev pub going_on_early : Kept → Way → Course → Course
going_on_early k Fresh c = visit_or_opening c (next_unfinished k c.from)
going_on_early k Surveying c = ask_or_call c (next_asked k c.from)

-- from the first short address on
abbrev pub asking_again : Kept → Course → Course
asking_again k c =
    ask_or_call (record c {
      from = 0;
      opened = false;
      ascent = ascent_at_first;
      tally = asked_again c.tally;
    }) (next_asked k 0)

abbrev pub searching_first : Way → Course → Course
searching_first Fresh c = searching_anew c
searching_first Surveying c = hunting_first c

abbrev pub searching_on : Way → Course → Course
searching_on Fresh c = searching_anew c
searching_on Surveying c = hunting_on c

abbrev pub going_on : Kept → Bool → Course → Course
going_on k true c = searching_on c.way c
going_on k false c = going_on_early k c.way c
