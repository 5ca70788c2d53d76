use Rattle.dali_progress.proofs.Below.{◌≡◌, ℕ, ◌+◌, ◌-◌, ◌*◌, ◌<◌, ◌≤◌, ◌⊎◌, Bool, true, false, zero, suc, List, Some, None, ◌==◌, if◌then◌else◌, count_by}
use Rattle.dali_progress.proofs.Below.{value_of, SearchAddress, Gear, Assignment, Kept, Has, HasAddress, InBlock, IsTrace, stage_of, End, AllFound, BlockFull}
use Rattle.dali_progress.proofs.Below.{GaveUp, Stage, Ascent, IsAscent, Knows, asked_next, leads_to, Gives, has_room, frames_to_ask, room_left}
use Rattle.dali_progress.proofs.Below.{thirds_to_somebody, thirds_to_nobody, IsTrueWay, Again, Found as Reached, Course, is_yes, sought, bytes_to_send, Machine}
use Rattle.dali_progress.proofs.Below.{has_short, none_passed, Purpose, Opening, Probing, Visiting, Resolving, Closing, Hunting, Asking as Counting, Calling}
use Rattle.dali_progress.proofs.Below.{Drawing, PassingOver, Shorts, Tally, Surveying, Passed, Way, HasShort, is_bare, is_wanted, wants, OfPowered, IsOpened}
use Rattle.dali_progress.proofs.{Below.{NoneNamed, SameCore, AreTabled}, Stands.{to_come, search_frames, VisitsAt, CloseStage, sent_at}}
use Rattle.dali_progress.proofs.{Survey.{Drawn.{those_drawn, is_lost}, Queried.{Nobody, TabledBelow, unseen}, Woken.AreLow}, Surveying.{IsRollCall, IsDraw}}
use Rattle.{dali_progress.proofs.Surveying.{call_sent, draw_left, IsAskedOf, IsClear}, dali_search.specs.Questions.Asking}
use Rattle.dali_script.specs.declared.stage.Stage.TheVariants as stage

-- HOW FAR A SURVEY IS, if nothing is disturbed. `start` are the gear at its start.

-- how it began: with which gear and records
pub record Begun : Type 0 where
  pub gear : List Gear
  pub kept : Kept

-- what is reserved is enrolled; or it was reserved then, and is enrolled if it was then
abbrev pub IsSettledIn : Begun → Kept → Assignment → Type 0
IsSettledIn start k x = Has k.enrolled x ⊎ (Has start.kept.reserved x × (Has start.kept.enrolled x → Has k.enrolled x))

abbrev pub Settles : Begun → Kept → Type 0
Settles start k = (x : Assignment) → Has k.reserved x → IsSettledIn start k x

-- ---------------------------------------------------------------- the census

-- so many frames take the roll call, the two hunts, the draw between them, the roll calls after them and the close, for so many
-- gear without short address
abbrev pub survey_frames : List Gear → ℕ
survey_frames gs = 106 * count_by is_bare gs + 66

-- and so many the short address that is asked: three if it is silent, and three if it tells its random address
abbrev pub silent_left : ℕ → ℕ
silent_left zero = 0
silent_left (suc k) = 2 - k

abbrev pub asked_left : Stage → ℕ → ℕ
asked_left (stage.HighAsked b (Some v)) asked = 2
asked_left (stage.HighAsked b None) asked = silent_left asked
asked_left (stage.MiddleAsked b x) asked = 1
asked_left stage.Free asked = 3 - asked
asked_left _ asked = 0

-- before the first roll call
pub record IsUncalled (c : Course) : Type 0 where
  pub unopened : c.opened ≡ false
  pub undrawn : c.tally.draws ≡ 0
  pub loud : c.tally.is_silent ≡ false

-- a question is asked again after silence; a number told ends that
abbrev pub AskCount : Stage → ℕ → ℕ → List Gear → Type 0
AskCount stage.Free a asked gs = (asked ≡ 0) ⊎ (Nobody gs a × (asked ≤ 2))
AskCount (stage.HighAsked b None) a asked gs = asked ≤ 2
AskCount (stage.Spelled b (Some n)) a asked gs = asked ≡ 0
AskCount _ a asked gs = Unit {0}

pub record Counts (a : ℕ) (s : Stage) (k : Kept) (heard : Shorts) (asked from : ℕ) (start : Begun) (gs : List Gear) (left : ℕ) : Type 0 where
  pub ask : IsAskedOf a s k heard gs
  pub from_is : from ≡ a + 1
  pub settled : Settles start k
  pub same : SameCore start.gear gs
  pub count : AskCount s a asked gs
  pub tabled : TabledBelow a start.gear k.enrolled gs
  pub frames : 3 * (63 - a) + asked_left s asked + survey_frames gs ≤ left

-- ---------------------------------------------------------------- the frames of the roll call, and of what follows it

-- After a hunt in which no gear is left, but for one frame of it, which is counted with the hunt. If it found some gear, the
-- roll is called: twice, and the close comes; or those that never drew are heard, and draw after a hunt in vain. If it found
-- no gear, these draw.
abbrev pub called_after : ℕ → ℕ
called_after zero = 16
called_after (suc lost) = 106 * suc lost + 49

abbrev pub hunted_after : ℕ → ℕ → ℕ
hunted_after zero lost = 106 * lost + 33
hunted_after (suc found) lost = called_after lost

-- a roll call, with so many gear without short address that drew a number, and so many that never did
abbrev pub roll_frames : Bool → ℕ → ℕ → ℕ
roll_frames silent drawn lost = if drawn + lost == 0 then (if silent then 9 else 17) else 106 * drawn + 17 + hunted_after drawn lost

-- once gear have drawn a number, each has one
abbrev pub IsFirstDraw : Tally → List Gear → Type 0
IsFirstDraw y gs = 0 < count_by is_lost gs → y.draws ≡ 0

-- ---------------------------------------------------------------- the roll call

pub record Calls (s : Stage) (k : Kept) (heard : Shorts) (c : Course) (start : Begun) (gs : List Gear) (left : ℕ) : Type 0 where
  pub opened_is : c.opened ≡ true
  pub roll : IsRollCall s c.number gs
  pub quiet : c.tally.is_silent ≡ true → count_by is_bare gs ≡ 0
  pub first : IsFirstDraw c.tally gs
  pub clear : IsClear k heard
  pub settled : Settles start k
  pub tabled : AreTabled (unseen start.gear) k.enrolled gs
  pub frames : roll_frames c.tally.is_silent (count_by is_bare (those_drawn gs)) (count_by is_lost gs) ≤ left + call_sent s

-- ---------------------------------------------------------------- gear draw

pub record Draws (s : Stage) (k : Kept) (heard : Shorts) (c : Course) (start : Begun) (gs : List Gear) (left : ℕ) : Type 0 where
  pub opened_is : c.opened ≡ true
  pub draw : IsDraw Drawing s c.number gs
  pub loud : c.tally.is_silent ≡ false
  pub somebody : 0 < count_by is_bare gs
  pub clear : IsClear k heard
  pub settled : Settles start k
  pub tabled : AreTabled (unseen start.gear) k.enrolled gs
  pub frames : draw_left s + 106 * count_by is_bare gs + 26 ≤ left

-- ---------------------------------------------------------------- the hunts

-- what is reserved is enrolled, but for the number that is visited
abbrev pub IsSettledBut : Purpose → SearchAddress → Begun → Kept → Type 0
IsSettledBut Visiting n start k = (x : Assignment) → Has k.reserved x → IsSettledIn start k x ⊎ (x.1 ≡ value_of n)
IsSettledBut p n start k = Settles start k

-- a hunt that found no gear yet began since some gear was heard
abbrev pub IsCalledFor : Purpose → Ascent → List Gear → Type 0
IsCalledFor Hunting x gs = x.found ≡ 0 → 0 < count_by is_bare gs
IsCalledFor p x gs = Unit {0}

-- the frames that come after it
abbrev pub frames_after : Purpose → Ascent → List Gear → ℕ
frames_after Hunting x gs = hunted_after (x.found + count_by is_wanted (those_drawn gs)) (count_by is_lost gs)
frames_after p x gs = called_after (count_by is_lost gs)

-- ---------------------------------------------------------------- the search that goes up

-- `told` is whether the machine was told what was heard, and has not acted on it.

-- so many frames of the question are still to be sent
abbrev pub pending : Bool → Stage → SearchAddress → ℕ
pending told stage.Free n = 4
pending told (stage.HighSent high) n = 3
pending told (stage.LowSent high low) n = 2
pending told (stage.Hunted r None left) n = bytes_to_send n r + 1
pending true (stage.Hunted r (Some h) left) n = 0
pending false (stage.Hunted r (Some h) left) n = bytes_to_send n r + 1
pending told _ n = 0

-- and so many follow the search for so many gear: the visit and what comes after it, or the close
abbrev pub after_rise : ℕ → ℕ
after_rise zero = 1
after_rise (suc more) = 43 + 106 * more

-- what the questions still take, in thirds of a frame
abbrev pub thirds_for : ℕ → Ascent → Asking → ℕ
thirds_for zero x q = thirds_to_nobody x q
thirds_for (suc more) x q = thirds_to_somebody x q

-- the question that is sent, after those of the transaction before it
abbrev pub RiseStage : Bool → Stage → Ascent → SearchAddress → Asking → List Gear → Type 0
RiseStage told stage.Free x n q gs = has_room q (asked_next x) ≡ false
RiseStage told (stage.HighSent high) x n q gs = (n.high ≡ high) × (has_room q (asked_next x) ≡ false)
RiseStage told (stage.LowSent high low) x n q gs = (n.high ≡ high) × (n.low ≡ low) × (has_room q (asked_next x) ≡ false)
RiseStage told (stage.Hunted r None left) x n q gs = left ≡ bytes_to_send n r + 1 + room_left q (asked_next x)
RiseStage true (stage.Hunted r (Some h) left) x n q gs = (r ≡ n) × (left ≡ room_left q (asked_next x)) × Gives (wants gs) (asked_next x) (is_yes h)
RiseStage false (stage.Hunted r (Some h) left) x n q gs = left ≡ bytes_to_send n r + 1 + room_left q (asked_next x)
RiseStage told _ x n q gs = ⊥

-- what is known of the ascent, and that so many frames are enough for its questions
pub record Ascends (x : Ascent) (before : Asking) (gs : List Gear) (budget : ℕ) : Type 0 where
  pub way : IsTrueWay x before
  pub knows : Knows (wants gs) x
  pub ready : IsOpened gs
  pub unnamed : NoneNamed gs
  pub enough : thirds_for (count_by is_wanted gs) x before ≤ 3 * budget

pub record Rises (told : Bool) (s : Stage) (x : Ascent) (n : SearchAddress) (gs : List Gear) (left : ℕ) : Type 0 where
  pub before : Asking
  pub budget : ℕ
  pub ascends : Ascends x before gs budget
  pub open ascends use *
  pub running : leads_to x ≡ Again
  pub number : n ≡ sought (asked_next x)
  pub stage_is : RiseStage told s x n before gs
  pub afford : frames_to_ask before (asked_next x) ≤ budget
  pub frames : budget + after_rise (count_by is_wanted gs) + pending told s n ≤ left + frames_to_ask before (asked_next x)

-- who is visited is the least that the search has found, and once withdrawn below all that are left
abbrev pub IsLeastAt : Stage → SearchAddress → List Gear → Type 0
IsLeastAt (stage.Withdrawn r a) n gs = (m : ℕ) → wants gs m ≡ true → value_of n < m
IsLeastAt s n gs = (m : ℕ) → wants gs m ≡ true → value_of n ≤ m

pub record IsReached (s : Stage) (x : Ascent) (n : SearchAddress) (gs : List Gear) : Type 0 where
  pub is : IsAscent x
  pub reached : leads_to x ≡ Reached (value_of n)
  pub least : IsLeastAt s n gs

abbrev pub HuntAt : Bool → Purpose → Stage → Kept → Ascent → SearchAddress → List Gear → ℕ → Type 0
HuntAt told Hunting s k x n gs left = Rises told s x n gs left
HuntAt told Visiting s k x n gs left = VisitsAt s k n gs left × IsReached s x n gs
HuntAt told _ s k x n gs left = ⊥

-- The frames of visits are those of a start, so they count 111 for each gear that is still to be found. The search that goes up
-- needs 106 for each, and some more if it ends: so many gear are behind, and five frames less for each of them.
abbrev pub surplus : Purpose → ℕ
surplus Visiting = 27
surplus p = 0

abbrev pub IsBehind : Purpose → Stage → ℕ → List Gear → ℕ → Type 0
IsBehind Visiting (stage.Withdrawn r a) behind gs left = (count_by is_wanted gs ≤ behind) × (search_frames behind ≤ left)
IsBehind Visiting s behind gs left = count_by is_wanted gs ≡ suc behind
IsBehind p s behind gs left = behind ≡ 0

-- what is known while gear are hunted, whichever transaction is to come
pub record Hunted (opened silent : Bool) (draws : ℕ) (gs : List Gear) : Type 0 where
  pub opened_is : opened ≡ true
  pub loud : silent ≡ false
  pub first : 0 < count_by is_lost gs → draws ≡ 0
  pub low : AreLow gs

abbrev pub IsHunted : Course → List Gear → Type 0
IsHunted c gs = Hunted c.opened c.tally.is_silent c.tally.draws gs

pub record Hunts (told : Bool) (p : Purpose) (s : Stage) (k : Kept) (heard : Shorts) (c : Course) (start : Begun) (gs : List Gear) (left : ℕ) : Type 0 where
  pub hunted : IsHunted c gs
  pub called : IsCalledFor p c.ascent gs
  pub clear : IsClear k heard
  pub settled : IsSettledBut p c.number start k
  pub rest : ℕ
  pub at : HuntAt told p s k c.ascent c.number (those_drawn gs) rest
  pub tabled : AreTabled (unseen start.gear) (to_come s c.number k.enrolled) (those_drawn gs)
  pub behind : ℕ
  pub behind_is : IsBehind p s behind (those_drawn gs) rest
  pub frames : rest + surplus p + frames_after p c.ascent gs ≤ left + 5 * behind

-- ---------------------------------------------------------------- the close

-- what an end says, by records and marks; if the block is full, some gear is left without address
abbrev pub AreTaken : Kept → Shorts → Type 0
AreTaken k heard = (a : ℕ) → InBlock k.block a → HasAddress k.reserved a ⊎ (HasAddress k.enrolled a ⊎ (has_short heard a ≡ true))

abbrev pub SurveyEnds : End → Kept → Shorts → List Gear → Type 0
SurveyEnds AllFound k heard gs = OfPowered gs HasShort
SurveyEnds BlockFull k heard gs = (0 < count_by is_bare gs) × AreTaken k heard
SurveyEnds GaveUp k heard gs = ⊥

pub record SurveyCloses (e : End) (s : Stage) (k : Kept) (heard : Shorts) (start : Begun) (gs : List Gear) (left : ℕ) : Type 0 where
  pub stage_is : CloseStage s
  pub well : SurveyEnds e k heard gs
  pub settled : Settles start k
  pub tabled : AreTabled (unseen start.gear) k.enrolled gs
  pub frames : 1 ≤ left + sent_at s

-- ---------------------------------------------------------------- of whatever transaction

abbrev pub SurveyAt : Bool → Purpose → Stage → Kept → Shorts → ℕ → Course → Begun → List Gear → ℕ → Type 0
SurveyAt told (Counting a) s k heard asked c start gs left = IsUncalled c × Counts a s k heard asked c.from start gs left
SurveyAt told Calling s k heard asked c start gs left = Calls s k heard c start gs left
SurveyAt told Hunting s k heard asked c start gs left = Hunts told Hunting s k heard c start gs left
SurveyAt told Visiting s k heard asked c start gs left = Hunts told Visiting s k heard c start gs left
SurveyAt told Drawing s k heard asked c start gs left = Draws s k heard c start gs left
SurveyAt told (Closing e) s k heard asked c start gs left = SurveyCloses e s k heard start gs left
SurveyAt told Opening s k heard asked c start gs left = ⊥
SurveyAt told Probing s k heard asked c start gs left = ⊥
SurveyAt told PassingOver s k heard asked c start gs left = ⊥
SurveyAt told (Resolving a) s k heard asked c start gs left = ⊥

-- if no visit fails, no gear is passed over, and no short address is asked again
pub record Smooth (y : Way) (p : Passed) (b : Bool) : Type 0 where
  pub way : y ≡ Surveying
  pub passed : p ≡ none_passed
  pub unmissed : b ≡ false

abbrev pub IsSmooth : Course → Type 0
IsSmooth c = Smooth c.way c.tally.passed c.tally.is_missed

-- what every machine has that is not disturbed
pub record Undisturbed (tries silent : ℕ) (y : Way) (p : Passed) (b : Bool) : Type 0 where
  pub untried : tries ≡ 0
  pub loud : silent ≡ 0
  pub smooth : Smooth y p b

abbrev pub Calm : Machine → Type 0
Calm m = Undisturbed m.tries m.silent m.course.way m.course.tally.passed m.course.tally.is_missed

pub record SurveyStands (told : Bool) (start : Begun) (m : Machine) (gs : List Gear) (left : ℕ) : Type 0 where
  pub calm : Calm m
  pub trace : IsTrace (stage_of m.trace) m.trace
  pub at : SurveyAt told m.course.purpose (stage_of m.trace) m.kept m.heard m.asked m.course start gs left
