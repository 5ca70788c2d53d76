use Rattle.std.specs.Prelude.{◌≡◌, ℕ, ◌+◌, ◌-◌, ◌≤◌, ◌⊎◌, Bool, true, false, nat_lt, nat_le}
use Rattle.std.specs.Prelude.{List, [], ◌∷◌, ◌++◌, Option, Some, None, Ok, Err, if◌then◌else◌}
use Rattle.dali_port.specs.declared.orders.Word.{Word}
use Rattle.dali_port.specs.declared.orders.Word.TheVariants.{Heard, Destroyed, Lapsed}
use Rattle.dali_port.specs.State.{Port, Phase, Sent, Free, Waiting, Sending, Breaking, Listening}
use Rattle.dali_port.specs.Times.{half_bit, apart}
use Rattle.dali_port.specs.Frames.{driven_in, next_in, same}
use Rattle.dali_port.specs.Calls.{Answered, is_backwards}
use Rattle.dali_port.specs.Laws.{is_sending}
use Rattle.dali_port.specs.Runs.{Call, Sends, Times, Turns, Loses, after}

-- WHAT THE BUS DID WHILE A FRAME WAS SENT: stretches of time, each with whether the bus had the
-- level that was driven. Between two calls it keeps its level, and a half bit ends in its time;
-- after the stop condition nothing counts.
abbrev pub Stretch : Type 0
Stretch = Bool × ℕ

abbrev pub stretches : Sent → ℕ → Bool → ℕ → List Stretch
stretches s called low now =
    if nat_lt (now - s.since) half_bit then (same (driven_in s) low, now - called) ∷ []
    else (if nat_le 39 s.half then (same (driven_in s) low, s.since + half_bit - called) ∷ []
    else (same (driven_in s) low, s.since + half_bit - called)
    ∷ (same (next_in s) low, now - (s.since + half_bit)) ∷ [])

abbrev pub seen_in : Phase → Port → ℕ → List Stretch
seen_in Free p now = []
seen_in (Waiting order) p now = []
seen_in (Sending s) p now = stretches s p.called p.is_low now
seen_in (Breaking since) p now = []
seen_in (Listening l) p now = []

-- a call that is refused ends no stretch
abbrev pub seen_by : Port → Call → List Stretch
seen_by p (Sends order now) = []
seen_by p (Times now) = if is_backwards p now then [] else seen_in p.phase p now
seen_by p (Turns low now) = if is_backwards p now then [] else seen_in p.phase p now
seen_by p (Loses low now) = []

abbrev pub seen_by_all : Port → List Call → List Stretch
seen_by_all p [] = []
seen_by_all p (c ∷ calls) = seen_by p c ++ seen_by_all (after p c) calls

-- NEVER FOR LONGER THAN THE BOUND do they differ, if they have differed for so long before
abbrev pub longer : ℕ → Stretch → ℕ
longer before (true, time) = 0
longer before (false, time) = before + time

abbrev pub Follows : ℕ → List Stretch → Type 0
Follows before [] = Unit {0}
Follows before (stretch ∷ rest) =
    (longer before stretch ≤ apart) × Follows (longer before stretch) rest

-- THE CALLS OF A FRAME THAT IS SENT WHOLE: the last one leads to the window after it
abbrev pub is_listening : Phase → Bool
is_listening Free = false
is_listening (Waiting order) = false
is_listening (Sending s) = false
is_listening (Breaking since) = false
is_listening (Listening l) = true

abbrev pub IsWhole : Port → List Call → Type 0
IsWhole p [] = ⊥
IsWhole p (c ∷ calls) =
    ((is_listening (after p c).phase ≡ true) × (calls ≡ []))
    ⊎ ((is_sending (after p c).phase ≡ true) × IsWhole (after p c) calls)

-- A CALL TELLS SILENCE, A BYTE OR DAMAGED
abbrev pub is_heard : Option Word → Bool
is_heard None = false
is_heard (Some (Heard heard)) = true
is_heard (Some Destroyed) = false
is_heard (Some Lapsed) = false

abbrev pub TellsHeard : Answered → Type 0
TellsHeard (Ok event) = is_heard event.word ≡ true
TellsHeard (Err refusal) = ⊥
