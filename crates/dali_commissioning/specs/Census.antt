use Rattle.std.specs.Prelude.{◌≡◌, ◌⊎◌, ℕ, zero, suc, ◌+◌, ◌<◌, ◌==◌, ◌||◌, ◌&&◌, if◌then◌else◌}
use Rattle.std.specs.Prelude.{List, [], ◌∷◌, ◌++◌, nat_le, min}
use Rattle.std.specs.Prelude.{Bool, true, false, not, Option, Some, None, is_some, length}
use Rattle.std.specs.List.{list_any}
use Rattle.std.specs.Io.KnownBytes.{Appends}
use Rattle.dali_frame.specs.declared.frames.Forward.{Forward}
use Rattle.dali_frame.specs.declared.frames.Answer.{Answer}
use Rattle.dali_frame.specs.declared.frames.Answer.TheVariants.{Silence, Byte, Damaged}
use Rattle.dali_frame.specs.Random.{number_of}
use Rattle.dali_special.specs.declared.command.Part.{Part}
use Rattle.dali_special.specs.declared.command.Part.TheVariants.{High, Middle, Low}
use Rattle.dali_special.specs.declared.command.Command.TheVariants.{RandomByte}
use Rattle.dali_special.specs.Command.{frame_of}
use Rattle.dali_script.specs.declared.orders.Input.{Input}
use Rattle.dali_script.specs.declared.orders.Input.TheVariants.{Start, Survey, Heard}
use Rattle.dali_script.specs.declared.orders.Input.TheVariants.{Destroyed, Lapsed, Committed}
use Rattle.dali_script.specs.declared.orders.Input.TheVariants.{CommitFailed}
use Rattle.dali_script.specs.declared.trace.Entry.{Entry}
use Rattle.dali_script.specs.declared.block.Block.{Block}
use Rattle.dali_script.specs.Records.{Kept}
use Rattle.dali_script.specs.Stages.{in_block}
use Rattle.dali_script.specs.declared.sending.Half.{Half}
use Rattle.dali_script.specs.declared.sending.Half.TheVariants.{Whole}
use Rattle.dali_commissioning.specs.declared.census.Answers.{Answers}
use Rattle.dali_commissioning.specs.declared.census.Reply.{Reply}
use Rattle.dali_commissioning.specs.declared.census.Reply.TheVariants as reply
use Rattle.dali_commissioning.specs.declared.hearing.Hearing.{Hearing}
use Rattle.dali_commissioning.specs.declared.hearing.OneByte.{OneByte}
use Rattle.dali_commissioning.specs.Drivers.{Talk}
use Rattle.dali_commissioning.specs.Lines.{put_text}
use Rattle.dali_commissioning.specs.Conducted.{Hears}

-- ---------------------------------------------------------------- a question

-- A QUESTION is the transaction of three queries that asks the gear with a short address for its
-- random address: high, middle and low byte. What its frames were told stands last first.
abbrev pub part_at : ℕ → Part
part_at zero = High
part_at (suc zero) = Middle
part_at _ = Low

abbrev pub query_at : ℕ → ℕ → Forward
query_at a n = frame_of (RandomByte a (part_at n))

-- the first at priority 3, the later ones at priority 1
abbrev pub priority_at : ℕ → ℕ
priority_at zero = 3
priority_at _ = 1

abbrev pub answer_told : Input → Option Answer
answer_told (Heard h) = Some h
answer_told Start = None
answer_told Survey = None
answer_told Destroyed = None
answer_told Lapsed = None
answer_told Committed = None
answer_told CommitFailed = None

abbrev pub is_sent : Input → Bool
is_sent told = is_some (answer_told told)

abbrev pub AreHeard : List Input → Type 0
AreHeard [] = Unit {0}
AreHeard (told ∷ before) = (is_some (answer_told told) ≡ true) × AreHeard before

-- a frame is put, and this is told of it
pub record IsPut (priority : ℕ) (f : Forward) (half : Half) (told : Input)
    (x y : Talk) : Type 0 where
  pub wrote : Appends x.written y.written (put_text priority f half)
  pub hears : Hears x y told

-- the frames of a question are put one after the other, as long as each was heard
abbrev pub IsAsked : ℕ → List Input → Talk → Talk → Type 0
IsAsked a [] x y = y ≡ x
IsAsked a (told ∷ before) x y =
    (mid : Talk)
    × IsAsked a before x mid
    × AreHeard before
    × (length before < 3)
    × IsPut (priority_at (length before)) (query_at a (length before)) Whole told mid y

-- the frames of a question that were heard, each with what was heard, oldest first
abbrev pub entries_of : ℕ → List Input → List Entry
entries_of a [] = []
entries_of a (Heard h ∷ before) =
    entries_of a before ++ (record { frame = query_at a (length before); heard = h }) ∷ []
entries_of a (_ ∷ before) = entries_of a before

-- ---------------------------------------------------------------- what it tells

-- what three answers spell: without any byte it may be that none answered
abbrev pub is_byte : Answer → Bool
is_byte (Byte b) = true
is_byte _ = false

abbrev pub is_silence : Answer → Bool
is_silence Silence = true
is_silence _ = false

abbrev pub without_number : Answer → Answer → Answer → Reply
without_number h m l =
    if is_byte h || (is_byte m || is_byte l)
    then reply.Unclear
    else if is_silence h && (is_silence m && is_silence l) then reply.Silence else reply.Noise

abbrev pub reply_of : Answer → Answer → Answer → Reply
reply_of (Byte h) (Byte m) (Byte l) = reply.Random (number_of h m l)
reply_of h m l = without_number h m l

-- what a question was answered; none if one of its frames was lost
abbrev pub answers_heard : Option Answer → Option Answer → Option Answer → Option Answers
answers_heard (Some h) (Some m) (Some l) = Some (record { high = h; middle = m; low = l })
answers_heard _ _ _ = None

abbrev pub answers_told : List Input → Option Answers
answers_told (l ∷ m ∷ h ∷ []) = answers_heard (answer_told h) (answer_told m) (answer_told l)
answers_told _ = None

-- What two questions tell together: silence says more than noise, since noise may come from no
-- gear; a byte says more than silence, since an answer may be lost; a random address says more than
-- what spells none; and two different ones say that there are several gear.
abbrev pub joined : Reply → Reply → Reply
joined reply.Noise r = r
joined r reply.Noise = r
joined reply.Silence r = r
joined r reply.Silence = r
joined reply.Unclear r = r
joined r reply.Unclear = r
joined (reply.Random m) (reply.Random n) = if m == n then reply.Random m else reply.Several
joined _ _ = reply.Several

-- ---------------------------------------------------------------- the questions of an address

-- questions to one short address, one after the other, last first
abbrev pub AreAsked : ℕ → List (List Input) → Talk → Talk → Type 0
AreAsked a [] x y = y ≡ x
AreAsked a (told ∷ before) x y =
    (mid : Talk) × AreAsked a before x mid × IsAsked a told mid y

-- one byte of the random address, over all questions that were told whole: the byte that was told
-- first, whether another one was, and how often it was damaged
abbrev pub byte_unheard : OneByte
byte_unheard = record { byte = None; differs = false; damaged = 0 }

abbrev pub or_first : Option ℕ → ℕ → ℕ
or_first (Some b) told = b
or_first None told = told

abbrev pub is_another : Option ℕ → ℕ → Bool
is_another (Some b) told = not (b == told)
is_another None told = false

abbrev pub byte_after : OneByte → Answer → OneByte
byte_after b Silence = b
byte_after b (Byte told) = record {
  byte = Some (or_first b.byte told);
  differs = b.differs || is_another b.byte told;
  damaged = b.damaged;
}
byte_after b Damaged = record b { damaged = min (b.damaged + 1) 255 }

-- WHAT WAS HEARD: how many questions were told whole, what they tell together, and each byte
abbrev pub nothing_heard : Hearing
nothing_heard = record {
  asked = 0;
  reply = reply.Noise;
  high = byte_unheard;
  middle = byte_unheard;
  low = byte_unheard;
}

abbrev pub heard_after : Hearing → Option Answers → Hearing
heard_after h (Some a) = record {
  asked = h.asked + 1;
  reply = joined h.reply (reply_of a.high a.middle a.low);
  high = byte_after h.high a.high;
  middle = byte_after h.middle a.middle;
  low = byte_after h.low a.low;
}
heard_after h None = h

abbrev pub heard_in : List (List Input) → Hearing
heard_in [] = nothing_heard
heard_in (told ∷ before) = heard_after (heard_in before) (answers_told told)

-- so many questions in a row were lost, the last one among them
abbrev pub AreLost : ℕ → List (List Input) → Type 0
AreLost zero questions = Unit {0}
AreLost (suc n) [] = ⊥
AreLost (suc n) (told ∷ before) = (answers_told told ≡ None) × AreLost n before

abbrev pub lost_after : ℕ → Option Answers → ℕ
lost_after n (Some a) = 0
lost_after n None = n + 1

-- A SHORT ADDRESS IS ASKED until so many questions were told whole.
abbrev pub IsHeard : ℕ → ℕ → Hearing → Talk → Talk → Type 0
IsHeard n a h x y =
    (questions : List (List Input))
    × AreAsked a questions x y
    × (h ≡ heard_in questions)
    × (h.asked ≡ n)

-- three of them
abbrev pub IsAnswered : ℕ → Reply → Talk → Talk → Type 0
IsAnswered a r x y = (h : Hearing) × IsHeard 3 a h x y × (r ≡ h.reply)

-- A SHORT ADDRESS IS GIVEN UP if eight questions in a row were lost before that.
abbrev pub IsGivenUpOf : ℕ → ℕ → Talk → Talk → Type 0
IsGivenUpOf n a x y =
    (questions : List (List Input))
    × AreAsked a questions x y
    × ((heard_in questions).asked < n)
    × AreLost 8 questions

abbrev pub IsGivenUp : ℕ → Talk → Talk → Type 0
IsGivenUp a x y = IsGivenUpOf 3 a x y

-- ---------------------------------------------------------------- an address that is unclear

-- no number was told, and something was heard: several gear answer together, or the answers of one,
-- or of none, are disturbed
abbrev pub is_unclear : Reply → Bool
is_unclear reply.Silence = false
is_unclear reply.Noise = true
is_unclear reply.Unclear = true
is_unclear (reply.Random r) = false
is_unclear reply.Several = false

-- SEVERAL GEAR ANSWER if two different bytes were told in one place; or, if no number was told, if
-- one of the bytes was damaged each of nine times: by chance that is rare, also if half of all
-- answers are disturbed.
abbrev pub are_two : Hearing → Bool
are_two h = h.high.differs || (h.middle.differs || h.low.differs)

abbrev pub is_damaged : OneByte → Bool
is_damaged b = nat_le 9 b.damaged

abbrev pub are_damaged : Hearing → Bool
are_damaged h = is_damaged h.high || (is_damaged h.middle || is_damaged h.low)

abbrev pub unless_told : Bool → Reply → Reply
unless_told damaged (reply.Random r) = reply.Random r
unless_told damaged r = if damaged then reply.Several else r

abbrev pub judged : Hearing → Reply
judged h = if are_two h then reply.Several else unless_told (are_damaged h) h.reply

-- AN ADDRESS IS ASKED UNTIL IT IS CLEAR: nine times more if three questions left it unclear.
abbrev pub IsAskedMore : ℕ → Reply → Reply → Talk → Talk → Type 0
IsAskedMore a first r x y =
    ((is_unclear first ≡ false) × (r ≡ first) × (y ≡ x))
    ⊎ ((is_unclear first ≡ true)
    × ((h : Hearing) × IsHeard 9 a h x y × (r ≡ joined first (judged h))))

pub record IsCleared (a : ℕ) (r : Reply) (x y : Talk) : Type 0 where
  pub first : Reply
  pub mid : Talk
  pub answered : IsAnswered a first x mid
  pub more : IsAskedMore a first r mid y

abbrev pub IsGivenUpUnclear : ℕ → Talk → Talk → Type 0
IsGivenUpUnclear a x y =
    IsGivenUp a x y
    ⊎ ((first : Reply)
    × (mid : Talk)
    × IsAnswered a first x mid
    × (is_unclear first ≡ true)
    × IsGivenUpOf 9 a mid y)

-- ---------------------------------------------------------------- the census

-- whether records name a short address
abbrev pub is_named : Kept → ℕ → Bool
is_named k a = list_any (λ p. p.0 == a) k.reserved || list_any (λ p. p.0 == a) k.enrolled

-- whether a short address is accounted for: the records name it, or it lies in a block of another
-- controller
abbrev pub is_known : Kept → List Block → ℕ → Bool
is_known k others a = is_named k a || list_any (λ b. in_block b a) others

-- THE CENSUS: the short addresses from this one on, which are asked if they are not accounted
-- for, and passed over as silent if they are.
abbrev pub IsCounted : Kept → List Block → ℕ → Reply → Talk → Talk → Type 0
IsCounted k others a r x y =
    ((is_known k others a ≡ true) × (r ≡ reply.Silence) × (y ≡ x))
    ⊎ ((is_known k others a ≡ false) × IsCleared a r x y)

abbrev pub AreCounted : Kept → List Block → ℕ → List Reply → Talk → Talk → Type 0
AreCounted k others a [] x y = y ≡ x
AreCounted k others a (r ∷ more) x y =
    (mid : Talk) × IsCounted k others a r x mid × AreCounted k others (a + 1) more mid y

-- THE CENSUS IS LOST at a short address that is not accounted for and is given up, after all those
-- before it.
abbrev pub IsLost : Kept → List Block → Talk → Talk → Type 0
IsLost k others x y =
    (replies : List Reply)
    × (mid : Talk)
    × (length replies < 64)
    × AreCounted k others 0 replies x mid
    × (is_known k others (length replies) ≡ false)
    × IsGivenUpUnclear (length replies) mid y

-- whether something was heard of a short address
abbrev pub is_silent : Reply → Bool
is_silent reply.Silence = true
is_silent _ = false

abbrev pub is_addressed : List Reply → Bool
is_addressed replies = list_any (λ r. not (is_silent r)) replies
