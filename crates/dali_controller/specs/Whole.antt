use Rattle.std.specs.Prelude.{◌≡◌, ℕ, ◌<◌, ◌≤◌, ◌⊎◌, Bool, true, false, Option, Some, None, IfSome}
use Rattle.dali_frame.specs.declared.frames.Forward.{Forward}
use Rattle.dali_frame.specs.declared.frames.Answer.{Answer}
use Rattle.dali_frame.specs.declared.numbers.SearchAddress.{SearchAddress}
use Rattle.dali_frame.specs.Random.{value_of, MASK24}
use Rattle.dali_special.specs.declared.command.Command.{Command}
use Rattle.dali_special.specs.declared.command.Command.TheVariants.{Program}
use Rattle.dali_special.specs.Command.{command_of, IsSpelled}
use Rattle.dali_script.specs.declared.records.Record.{Record}
use Rattle.dali_script.specs.declared.records.Record.TheVariants.{Reserve, Enrol, Release}
use Rattle.dali_script.specs.declared.stage.Stage.{Stage}
use Rattle.dali_script.specs.declared.stage.Stage.TheVariants.{Free, Unnamed}
use Rattle.dali_script.specs.declared.stage.Stage.TheVariants.{HighAsked, MiddleAsked, Hunted}
use Rattle.dali_script.specs.Records.{Kept, Has, HasRandom, Fits, MayAdd}
use Rattle.dali_script.specs.Scripts.{MayGive}
use Rattle.dali_script.specs.Stages.{stage_of, given, IsSearched}
use Rattle.dali_search.specs.declared.step.Step.TheVariants.{Again}
use Rattle.dali_search.specs.Least.{Search}
use Rattle.dali_search.specs.Ascending.{Ascent, asked_next, leads_to}
use Rattle.dali_script.specs.declared.orders.Order.{Order}
use Rattle.dali_script.specs.declared.orders.Order.TheVariants.{Put, Commit, Done, Halt}
use Rattle.dali_script.specs.declared.orders.End.TheVariants.{GaveUp}
use Rattle.dali_controller.specs.declared.purpose.Purpose.{Purpose}
use Rattle.dali_controller.specs.declared.purpose.Purpose.TheVariants.{Opening, Probing, Visiting}
use Rattle.dali_controller.specs.declared.purpose.Purpose.TheVariants.{Resolving, Closing}
use Rattle.dali_controller.specs.declared.purpose.Purpose.TheVariants.{Asking, Hunting, Calling}
use Rattle.dali_controller.specs.declared.purpose.Purpose.TheVariants.{Drawing, PassingOver}
use Rattle.dali_controller.specs.declared.way.Way.{Way}
use Rattle.dali_controller.specs.declared.way.Way.TheVariants.{Fresh, Surveying}
use Rattle.dali_controller.specs.Course.{first_of, turn_of, closing_of, byte_to_send, bytes_to_send}
use Rattle.dali_controller.specs.Course.{call_turn}
use Rattle.dali_controller.specs.Machine.{Machine}
use Rattle.dali_controller.specs.Next.{most_silent}

-- WHAT IS TRUE OF EVERY MACHINE between two inputs: its last order is one that it gives in this
-- state. Of what is no machine, something below is false.

-- what was sent of the transaction's search address, or that its short address is asked
abbrev pub IsAt : Stage → Purpose → SearchAddress → Type 0
IsAt (HighAsked b high) p n = ((p ≡ Resolving b) ⊎ (p ≡ Asking b)) × (b < 64)
IsAt (MiddleAsked b bytes) p n = ((p ≡ Resolving b) ⊎ (p ≡ Asking b)) × (b < 64)
IsAt s p n = IsSearched s n

-- the next question of a hunt, or COMPARE of a roll call
abbrev pub AsksOn : Purpose → SearchAddress → SearchAddress → Option Answer → ℕ → Command → Type 0
AsksOn Hunting n r last left c = (c ≡ byte_to_send n r) × (bytes_to_send n r < left)
AsksOn Calling n r last left c = (call_turn last left ≡ Some c) × (r ≡ n) × (0 < left)
AsksOn p n r last left c = ⊥

-- which command is sent at a stage, with the transaction's search address, and with what may be
-- given
abbrev pub Sends : Kept → SearchAddress → Purpose → Stage → Command → Type 0
Sends k n p Free c = (c ≡ first_of p n) × IsSpelled c
Sends k n p (Unnamed r) c =
    (p ≡ Visiting) × (r ≡ n)
    × ((a : ℕ) × (a < 64) × MayGive k.block k.reserved r a × (c ≡ Program (Some a)))
Sends k n p (Hunted r last left) c = AsksOn p n r last left c
Sends k n p s c =
    (turn_of p n s ≡ Some c) × IsAt s p n
    × IfSome (given s c) (λ g. MayGive k.block k.reserved g.0 g.1)

-- What is known while a transaction runs: whether gear are searched, and where its number comes
-- from. In the visits before the opening it is reserved, and a short address is asked about the
-- number that it is reserved for. Only a start probes. Only a survey asks short addresses, calls
-- the roll, and opens once gear are searched.
abbrev pub IsOpenedOn : Way → Bool → Type 0
IsOpenedOn Fresh opened = opened ≡ false
IsOpenedOn Surveying opened = opened ≡ true

abbrev pub IsSurvey : Way → Type 0
IsSurvey Fresh = ⊥
IsSurvey Surveying = Unit {0}

abbrev pub IsSearchedOn : Way → Bool → Type 0
IsSearchedOn y opened = (opened ≡ true) × IsSurvey y

abbrev pub IsVisitedOn : Way → Kept → ℕ → Bool → Type 0
IsVisitedOn Fresh k r opened = opened ≡ false → HasRandom k.reserved r
IsVisitedOn Surveying k r opened = opened ≡ true

abbrev pub Knows : Way → Kept → SearchAddress → Search → Ascent → Bool → Purpose → Type 0
Knows y k n s a opened Opening = IsOpenedOn y opened
Knows y k n s a opened Calling = IsSearchedOn y opened × (value_of n ≡ MASK24)
Knows y k n s a opened Drawing = IsSearchedOn y opened
Knows y k n s a opened PassingOver = IsSearchedOn y opened
Knows y k n s a opened Probing =
    (opened ≡ true) × (y ≡ Fresh) × (s.step ≡ Again) × (value_of n ≡ s.probe)
Knows y k n s a opened Hunting =
    (opened ≡ true) × IsSurvey y × (leads_to a ≡ Again) × (value_of n ≡ asked_next a)
Knows y k n s a opened Visiting = (value_of n < MASK24) × IsVisitedOn y k (value_of n) opened
Knows y k n s a opened (Resolving b) =
    (opened ≡ false) × (value_of n < MASK24) × (b < 64) × Has k.reserved (b, value_of n)
Knows y k n s a opened (Closing e) = opened ≡ true
Knows y k n s a opened (Asking b) = (opened ≡ false) × (y ≡ Surveying) × (b < 64)

-- the count of silent searches is below its limit, unless a close was begun for it, which ends so
abbrev pub IsWithinSilence : Way → Purpose → ℕ → Type 0
IsWithinSilence y (Closing GaveUp) silent = silent ≤ most_silent y
IsWithinSilence y p silent = silent < most_silent y

-- WHICH COMMAND a transaction sends at a stage, of those that may be sent there
abbrev pub IsMet : Stage → Purpose → SearchAddress → Type 0
IsMet (HighAsked b high) p n = (p ≡ Resolving b) ⊎ (p ≡ Asking b)
IsMet (MiddleAsked b bytes) p n = (p ≡ Resolving b) ⊎ (p ≡ Asking b)
IsMet s p n = IsSearched s n

abbrev pub IsChosen : SearchAddress → Purpose → Stage → Command → Type 0
IsChosen n p Free c = c ≡ first_of p n
IsChosen n p (Unnamed r) c = (p ≡ Visiting) × (r ≡ n)
IsChosen n p (Hunted r last left) c = AsksOn p n r last left c
IsChosen n p s c = (turn_of p n s ≡ Some c) × IsMet s p n

pub record IsReady (m : Machine) : Type 0 where
  pub tries : m.tries < 8
  pub calm : IsWithinSilence m.course.way m.course.purpose m.silent
  pub knows : Knows m.course.way m.kept m.course.number m.course.search m.course.ascent
      m.course.opened m.course.purpose

pub record IsUnstarted (m : Machine) : Type 0 where
  pub ready : IsReady m
  pub free : stage_of m.trace ≡ Free
  pub opening : m.course.purpose ≡ Opening
  pub fresh : m.course.way ≡ Fresh
  pub first : m.course.from ≡ 0

pub record IsSending (m : Machine) (f : Forward) : Type 0 where
  pub ready : IsReady m
  pub sends : Sends m.kept m.course.number m.course.purpose (stage_of m.trace) (command_of f)

-- an address is reserved in a visit
abbrev pub IsStoredIn : Record → Purpose → Type 0
IsStoredIn (Reserve a n) p = p ≡ Visiting
IsStoredIn (Enrol b n) p = Unit {0}
IsStoredIn (Release a n) p = Unit {0}

pub record IsStoring (m : Machine) (x : Record) : Type 0 where
  pub ready : IsReady m
  pub free : stage_of m.trace ≡ Free
  pub going : closing_of m.course.purpose ≡ None
  pub fits : Fits m.kept.block x
  pub may : MayAdd m.kept x
  pub stored : IsStoredIn x m.course.purpose

abbrev pub Pending : Machine → Option Order → Type 0
Pending m None = IsUnstarted m
Pending m (Some (Put p f)) = IsSending m f
Pending m (Some (Commit x)) = IsStoring m x
Pending m (Some (Done e)) = Unit {0}
Pending m (Some (Halt why)) = Unit {0}

abbrev pub IsWhole : Machine → Type 0
IsWhole m = Pending m m.last
