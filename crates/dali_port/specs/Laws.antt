use Rattle.std.specs.Prelude.{◌≡◌, ℕ, ◌+◌, ◌≤◌, ◌⊎◌, Bool, true, false, ◌&&◌, not, is_some, Option}
use Rattle.std.specs.Prelude.{Ok, Err}
use Rattle.dali_port.specs.declared.orders.Word.{Word}
use Rattle.dali_port.specs.State.{Sent}
use Rattle.dali_port.specs.State.{Phase}
use Rattle.dali_port.specs.State.{Free, Waiting, Sending, Breaking}
use Rattle.dali_port.specs.State.{Listening}
use Rattle.dali_port.specs.State.{Port}
use Rattle.dali_port.specs.Times.{half_bit}
use Rattle.dali_port.specs.Frames.{driven_in, begun_at, next_of}
use Rattle.dali_port.specs.Ports.{until}
use Rattle.dali_port.specs.Calls.{Answered, is_free, may_begin}

-- ONE WORD FOR EACH FRAME

-- whether a frame is under way
abbrev pub is_busy : Phase → Bool
is_busy phase = not (is_free phase)

-- from this phase to that one this word is told: one exactly if a frame was under way and is no
-- more; and no frame comes of nothing
abbrev pub IsOneWord : Phase → Phase → Option Word → Type 0
IsOneWord before after word =
    (is_some word ≡ is_busy before && not (is_busy after))
    × (is_busy after && not (is_busy before) ≡ false)

-- a call that hands in no frame; and one that does: if it is refused, nothing changes, else none
-- was under way, and one is, unless a word is told at once
abbrev pub TellsOne : Port → Port → Answered → Type 0
TellsOne p q (Ok event) = IsOneWord p.phase q.phase event.word
TellsOne p q (Err refusal) = q ≡ p

abbrev pub HandsIn : Port → Port → Answered → Type 0
HandsIn p q (Ok event) = (is_free p.phase ≡ true) × (is_some event.word ≡ is_free q.phase)
HandsIn p q (Err refusal) = q ≡ p

-- WHAT IS DRIVEN LOW: a half bit of a frame that is low, or a break
abbrev pub IsDrivenLow : Phase → Type 0
IsDrivenLow Free = ⊥
IsDrivenLow (Waiting order) = ⊥
IsDrivenLow (Sending s) = driven_in s ≡ true
IsDrivenLow (Breaking since) = Unit {0}
IsDrivenLow (Listening l) = ⊥

-- A FRAME BEGINS with the first level of `Sender`, and only if it waited, the bus has been at rest,
-- and no gear draws
abbrev pub is_sending : Phase → Bool
is_sending Free = false
is_sending (Waiting order) = false
is_sending (Sending s) = true
is_sending (Breaking since) = false
is_sending (Listening l) = false

abbrev pub Begins : Port → Sent → ℕ → Type 0
Begins p s now =
    ((until p now).phase ≡ Waiting s.order)
    × (may_begin (until p now) s.order now ≡ true)
    × (s ≡ begun_at s.order now)

-- IT GOES ON half bit by half bit, each in its time
abbrev pub GoesOn : Sent → Sent → ℕ → Type 0
GoesOn s t now =
    (t.order ≡ s.order)
    × (((t.half ≡ s.half) × (t.since ≡ s.since))
    ⊎ ((t.half ≡ next_of s.half) × (t.since ≡ s.since + half_bit) × (t.since ≤ now)))

-- A CALL TELLS A WORD
abbrev pub TellsWord : Answered → Type 0
TellsWord (Ok event) = is_some event.word ≡ true
TellsWord (Err refusal) = ⊥

abbrev pub is_waiting : Phase → Bool
is_waiting Free = false
is_waiting (Waiting order) = true
is_waiting (Sending s) = false
is_waiting (Breaking since) = false
is_waiting (Listening l) = false
