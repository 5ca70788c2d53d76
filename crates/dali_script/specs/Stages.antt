use Rattle.std.specs.Prelude.{◌≡◌, ℕ, ◌<◌, Bool, true, false, not, ◌&&◌, ◌==◌, nat_lt, nat_le}
use Rattle.std.specs.Prelude.{if◌then◌else◌, List, [], ◌∷◌, Option, Some, None, option_map}
use Rattle.std.specs.Prelude.{unwrap_or, is_some, ◌-◌}
use Rattle.std.specs.Prelude.{IfSome}
use Rattle.std.specs.List.{list_any}
use Rattle.dali_frame.specs.declared.frames.Answer.{Answer}
use Rattle.dali_frame.specs.declared.frames.Answer.TheVariants.{Silence, Byte, Damaged}
use Rattle.dali_frame.specs.declared.numbers.SearchAddress.{SearchAddress}
use Rattle.dali_frame.specs.Short.{short_of}
use Rattle.dali_frame.specs.Random.{value_of, number_of, MASK24}
use Rattle.dali_special.specs.declared.command.Target.TheVariants.{Unaddressed}
use Rattle.dali_special.specs.declared.command.Part.TheVariants.{High, Middle, Low}
use Rattle.dali_special.specs.declared.command.Command.{Command}
use Rattle.dali_special.specs.declared.command.Command.TheVariants.{Terminate, Initialise}
use Rattle.dali_special.specs.declared.command.Command.TheVariants.{Randomise, Compare, Withdraw}
use Rattle.dali_special.specs.declared.command.Command.TheVariants.{SearchHigh, SearchMiddle}
use Rattle.dali_special.specs.declared.command.Command.TheVariants.{SearchLow, Program, QueryShort}
use Rattle.dali_special.specs.declared.command.Command.TheVariants.{RandomByte, Arc}
use Rattle.dali_special.specs.Command.{MASK, command_of}
use Rattle.dali_script.specs.declared.block.Block.{Block}
use Rattle.dali_script.specs.declared.trace.Entry.{Entry}
use Rattle.dali_script.specs.declared.stage.Stage.{Stage}
use Rattle.dali_script.specs.declared.stage.Stage.TheVariants.{Free, Terminated, InitialisedOnce}
use Rattle.dali_script.specs.declared.stage.Stage.TheVariants.{Initialised, RandomisedOnce, Opened}
use Rattle.dali_script.specs.declared.stage.Stage.TheVariants.{HighSent, MiddleSent}
use Rattle.dali_script.specs.declared.stage.Stage.TheVariants.{NumberSent, LowSent, Hunted}
use Rattle.dali_script.specs.declared.stage.Stage.TheVariants.{WokenHigh, WokenLow, WokenMiddle}
use Rattle.dali_script.specs.declared.stage.Stage.TheVariants.{DrawFree, DrawBarred, PassedOver}
use Rattle.dali_script.specs.declared.stage.Stage.TheVariants.{Probed, Found, Unnamed, Unanswered}
use Rattle.dali_script.specs.declared.stage.Stage.TheVariants.{Inconclusive, Programmed, Confirmed}
use Rattle.dali_script.specs.declared.stage.Stage.TheVariants.{Withdrawn, HighAsked}
use Rattle.dali_script.specs.declared.stage.Stage.TheVariants.{MiddleAsked, Spelled, Over}
use Rattle.dali_script.specs.declared.finding.Finding.{Finding}
use Rattle.dali_script.specs.declared.finding.Finding.TheVariants.{Queried, Resolved}
use Rattle.dali_script.specs.Records.{Assignment}
use Rattle.dali_script.specs.Scripts.{MayGive, IsTransaction, ASKING, CALLING}
use Rattle.dali_script.specs.Findings.{search_of, Asked, nothing, high_byte, two_bytes}
use Rattle.dali_script.specs.Findings.{asked_of, finding_of}

-- How far a transaction is, from how far it was.

-- after the first QUERY SHORT ADDRESS, by what was heard
abbrev pub named : SearchAddress → Option ℕ → Bool → Stage
named r (Some b) mask = Found r b
named r None true = Unnamed r
named r None false = Inconclusive r None

abbrev pub queried : SearchAddress → Answer → Stage
queried r (Byte v) = named r (short_of v) (v == MASK)
queried r Silence = Unanswered r
queried r Damaged = Inconclusive r None

-- after the QUERY SHORT ADDRESS that follows PROGRAM SHORT ADDRESS a
abbrev pub answered : SearchAddress → ℕ → Option ℕ → Stage
answered r a (Some b) = if b == a then Confirmed r a else Inconclusive r (Some b)
answered r a None = Inconclusive r None

abbrev pub verified : SearchAddress → ℕ → Answer → Stage
verified r a (Byte v) = answered r a (short_of v)
verified r a _ = Inconclusive r None

-- after one more frame of a hunt, if so many may follow it
abbrev pub hunted : SearchAddress → ℕ → Command → Answer → Option Stage
hunted r left (SearchHigh high) h = Some (Hunted (record r { high = high }) None left)
hunted r left (SearchMiddle middle) h = Some (Hunted (record r { middle = middle }) None left)
hunted r left (SearchLow low) h = Some (Hunted (record r { low = low }) None left)
hunted r left Compare h = Some (Hunted r (Some h) left)
hunted r left _ h = None

-- after the question whether gear are to be searched: gear may draw if none answered
abbrev pub doubted : Answer → Stage
doubted Silence = DrawFree
doubted _ = DrawBarred

-- after a query of a byte of a random address: all bytes so far, if each was heard
abbrev pub byte_heard : Answer → Option ℕ
byte_heard (Byte v) = Some v
byte_heard _ = None

abbrev pub bytes_heard : Option ℕ → Answer → Option (ℕ × ℕ)
bytes_heard (Some high) (Byte v) = Some (high, v)
bytes_heard _ _ = None

abbrev pub number_heard : Option (ℕ × ℕ) → Answer → Option ℕ
number_heard (Some bytes) (Byte v) = Some (number_of bytes.0 bytes.1 v)
number_heard _ _ = None

-- WHERE A COMMAND LEADS from a stage, by what is heard after it. It leads nowhere unless it comes
-- next in a script: which commands may follow, and the stage after them, are read from here.
abbrev pub leads : Stage → Command → Answer → Option Stage
leads Free Terminate h = Some Terminated
leads Free (SearchHigh high) h = Some (HighSent high)
leads Free (RandomByte a High) h = Some (HighAsked a (byte_heard h))
leads Free (Arc f) h = Some Over
leads Terminated (Initialise Unaddressed) h = Some InitialisedOnce
leads InitialisedOnce (Initialise Unaddressed) h = Some Initialised
leads Initialised Randomise h = Some RandomisedOnce
leads Initialised (SearchHigh high) h = Some (WokenHigh high)
leads (WokenHigh high) (SearchLow low) h = Some (WokenLow high low)
leads (WokenHigh high) (SearchMiddle middle) h = Some (WokenMiddle high middle)
leads (WokenLow high low) (SearchMiddle middle) h =
    Some (Hunted (record { high = high; middle = middle; low = low }) None CALLING)
leads (WokenMiddle high middle) Compare h = Some (doubted h)
leads DrawFree Randomise h = Some RandomisedOnce
leads RandomisedOnce Randomise h = Some Opened
leads (HighSent high) (SearchMiddle middle) h = Some (MiddleSent high middle)
leads (HighSent high) (SearchLow low) h = Some (LowSent high low)
leads (LowSent high low) (SearchMiddle middle) h =
    Some (Hunted (record { high = high; middle = middle; low = low }) None ASKING)
leads (Hunted r last left) c h = if left == 0 then None else hunted r (left - 1) c h
leads (MiddleSent high middle) (SearchLow low) h =
    Some (NumberSent (record { high = high; middle = middle; low = low }))
leads (NumberSent r) Compare h = Some (Probed r h)
leads (NumberSent r) QueryShort h = Some (queried r h)
leads (NumberSent r) Withdraw h = Some (PassedOver r)
leads (Found r b) Withdraw h = Some (Withdrawn r b)
leads (Unnamed r) (Program (Some a)) h = Some (Programmed r a)
leads (Programmed r a) QueryShort h = Some (verified r a h)
leads (Confirmed r a) Withdraw h = Some (Withdrawn r a)
leads (HighAsked b high) (RandomByte a Middle) h =
    if a == b then Some (MiddleAsked b (bytes_heard high h)) else None
leads (MiddleAsked b bytes) (RandomByte a Low) h =
    if a == b then Some (Spelled b (number_heard bytes h)) else None
leads _ _ h = None

abbrev pub next_stage : Stage → Command → Answer → Stage
next_stage s c h = unwrap_or (leads s c h) Over

abbrev pub stage_from : Stage → List Entry → Stage
stage_from s [] = s
stage_from s (e ∷ t) = stage_from (next_stage s (command_of e.frame) e.heard) t

-- THE STAGE of a trace: how far a transaction is. `Over` also if the trace is no front of a
-- script.
unfoldable pub stage_of : List Entry → Stage
stage_of t = stage_from Free t

-- a hunt or a roll call that goes on: all three bytes of its search address were sent
abbrev pub IsHunting : Stage → Type 0
IsHunting (Hunted r last left) = 0 < left
IsHunting _ = ⊥

-- gear were initialised, and are to draw: at once, or if no gear answered before
abbrev pub IsBeforeDraw : Stage → Type 0
IsBeforeDraw Initialised = Unit {0}
IsBeforeDraw DrawFree = Unit {0}
IsBeforeDraw _ = ⊥

-- whether gear are to be searched is asked once more before gear draw
abbrev pub IsDoubting : Stage → Type 0
IsDoubting (WokenMiddle high middle) = Unit {0}
IsDoubting _ = ⊥

-- which address is given to the gear at which search address, by PROGRAM SHORT ADDRESS and by what
-- comes after it
abbrev pub given : Stage → Command → Option (SearchAddress × ℕ)
given (Unnamed r) (Program (Some a)) = Some (r, a)
given (Programmed r a) c = Some (r, a)
given (Confirmed r a) c = Some (r, a)
given _ _ = None

-- FOLLOWS: a command may come next at a stage if it leads on, and what is given, if anything,
-- may be given.
pub record Follows (b : Block) (reserved : List Assignment) (s : Stage) (c : Command) : Type 0 where
  pub leads_on : is_some (leads s c Silence) ≡ true
  pub may : IfSome (given s c) (λ g. MayGive b reserved g.0 g.1)

-- The same as tests.
abbrev pub in_block : Block → ℕ → Bool
in_block b a = nat_le b.first a && nat_le a b.last

abbrev pub may_give : Block → List Assignment → ℕ → ℕ → Bool
may_give b reserved n a =
    nat_lt n MASK24 && in_block b a && list_any (λ p. (p.0 == a) && (p.1 == n)) reserved

abbrev pub may_give_if : Block → List Assignment → Option (SearchAddress × ℕ) → Bool
may_give_if b reserved (Some g) = may_give b reserved (value_of g.0) g.1
may_give_if b reserved None = true

abbrev pub follows : Block → List Assignment → Stage → Command → Bool
follows b reserved s c = is_some (leads s c Silence) && may_give_if b reserved (given s c)

-- the same for some sender: what is given, if anything, is given to a number that gear draw
abbrev pub is_drawn_if : Option (SearchAddress × ℕ) → Bool
is_drawn_if (Some g) = nat_lt (value_of g.0) MASK24
is_drawn_if None = true

abbrev pub may_come : Stage → Command → Bool
may_come s c = is_some (leads s c Silence) && is_drawn_if (given s c)

-- some address may be given to the gear at a search address
abbrev pub may_give_some : Block → List Assignment → ℕ → Bool
may_give_some b reserved n =
    nat_lt n MASK24 && list_any (λ p. in_block b p.0 && (p.1 == n)) reserved

-- whether some command may come next at a stage
abbrev pub may_follow : Block → List Assignment → Stage → Bool
may_follow b reserved Opened = false
may_follow b reserved DrawBarred = false
may_follow b reserved (PassedOver r) = false
may_follow b reserved (Probed r h) = false
may_follow b reserved (Hunted r last left) = not (left == 0)
may_follow b reserved (Unnamed r) = may_give_some b reserved (value_of r)
may_follow b reserved (Unanswered r) = false
may_follow b reserved (Inconclusive r other) = false
may_follow b reserved (Programmed r a) = may_give b reserved (value_of r) a
may_follow b reserved (Confirmed r a) = may_give b reserved (value_of r) a
may_follow b reserved (Withdrawn r a) = false
may_follow b reserved (Spelled a number) = false
may_follow b reserved Over = false
may_follow b reserved _ = true

-- the finding of a transaction at a stage
abbrev pub finding_at : Stage → Option Finding
finding_at (Found r b) = Some (Queried b (value_of r))
finding_at (Inconclusive r other) = option_map (λ b. Queried b (value_of r)) other
finding_at (Confirmed r a) = Some (Queried a (value_of r))
finding_at (Withdrawn r a) = Some (Queried a (value_of r))
finding_at (Spelled a number) = option_map (λ r. Resolved a r) number
finding_at _ = None

-- what the frames so far have set of the search address
abbrev pub IsSearched : Stage → SearchAddress → Type 0
IsSearched (HighSent high) r = r.high ≡ high
IsSearched (WokenHigh high) r = r.high ≡ high
IsSearched (WokenLow high low) r = (r.high ≡ high) × (r.low ≡ low)
IsSearched (WokenMiddle high middle) r = (r.high ≡ high) × (r.middle ≡ middle)
IsSearched (PassedOver n) r = r ≡ n
IsSearched (MiddleSent high middle) r = (r.high ≡ high) × (r.middle ≡ middle)
IsSearched (NumberSent n) r = r ≡ n
IsSearched (LowSent high low) r = (r.high ≡ high) × (r.low ≡ low)
IsSearched (Hunted n last left) r = r ≡ n
IsSearched (Probed n h) r = r ≡ n
IsSearched (Found n b) r = r ≡ n
IsSearched (Unnamed n) r = r ≡ n
IsSearched (Unanswered n) r = r ≡ n
IsSearched (Inconclusive n other) r = r ≡ n
IsSearched (Programmed n a) r = r ≡ n
IsSearched (Confirmed n a) r = r ≡ n
IsSearched (Withdrawn n a) r = r ≡ n
IsSearched _ r = Unit {0}

-- what the queries of a random address so far were heard as
abbrev pub IsAsked : Stage → Asked → Type 0
IsAsked (HighAsked a (Some high)) q = q ≡ high_byte a high
IsAsked (HighAsked a None) q = q ≡ nothing
IsAsked (MiddleAsked a (Some bytes)) q = q ≡ two_bytes a bytes.0 bytes.1
IsAsked (MiddleAsked a None) q = q ≡ nothing
IsAsked _ q = Unit {0}

-- the stage that is kept beside a trace
pub record IsTrace (s : Stage) (t : List Entry) : Type 0 where
  pub stage : s ≡ stage_of t
  pub searched : IsSearched s (search_of t)
  pub asked : IsAsked s (asked_of t)
  pub finding : finding_of t ≡ finding_at s
  pub sent : IsTransaction t

-- the stage that these frames lead to, which says what they found
pub record IsReached (s : Stage) (t : List Entry) : Type 0 where
  pub stage : s ≡ stage_of t
  pub finding : finding_of t ≡ finding_at s
