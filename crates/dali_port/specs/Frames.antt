use Rattle.std.specs.Prelude.{ℕ, ◌+◌, ◌-◌, ◌*◌, min, Bool, true, false, nat_lt, nat_le}
use Rattle.std.specs.Prelude.{slice_index_or, if◌then◌else◌}
use Rattle.dali_frame.specs.declared.frames.Forward.{Forward}
use Rattle.dali_wire.specs.Levels.{sent_levels, forward_bits}
use Rattle.dali_port.specs.declared.orders.Order.{Order}
use Rattle.dali_port.specs.State.{Sent}
use Rattle.dali_port.specs.Courses.{Course}
use Rattle.dali_port.specs.Courses.{Goes, Destroyed, Whole}
use Rattle.dali_port.specs.Times.{half_bit, apart}

-- THE LEVELS OF A FRAME, those of `Sender`, each for a half bit; once the stop condition is over,
-- high
abbrev pub level_at : Forward → ℕ → Bool
level_at frame half = slice_index_or (sent_levels (forward_bits frame)) half false

-- A FRAME THAT IS BEING SENT. Its first level is low.
abbrev pub begun_at : Order → ℕ → Sent
begun_at order now = record {
  order = order;
  half = 0;
  since = now;
  agreed = now;
  driven = now;
}

-- the level that is driven, and the next one
abbrev pub next_of : ℕ → ℕ
next_of half = min (half + 1) 255

abbrev pub driven_in : Sent → Bool
driven_in s = level_at s.order.frame s.half

abbrev pub next_in : Sent → Bool
next_in s = level_at s.order.frame (next_of s.half)

abbrev pub same : Bool → Bool → Bool
same true true = true
same false false = true
same true false = false
same false true = false

-- COMPARING: when the bus last had the level that is driven, if both stayed as they are until now.
-- If that was longer ago than they may differ, the frame is destroyed.
abbrev pub agreed_by : Bool → Bool → ℕ → ℕ → ℕ
agreed_by driven low agreed now = if same driven low then now else agreed

abbrev pub compared_by : Sent → ℕ → ℕ → Course
compared_by s agreed now =
    if nat_lt apart (now - agreed) then Destroyed else Goes (record s { agreed = agreed })

abbrev pub compared : Sent → Bool → ℕ → Course
compared s low now = compared_by s (agreed_by (driven_in s) low s.agreed now) now

-- THE NEXT HALF BIT; if it has another level, this is an edge
abbrev pub turned : Sent → ℕ → Sent
turned s now = record s {
  half = next_of s.half;
  since = now;
  driven = if same (driven_in s) (next_in s) then s.driven else now;
}

-- THE COURSE OF A FRAME, if the bus kept its level until now: within a half bit; beyond it, into
-- the next one, or out of the stop condition. A port that was not called in all of the next half
-- bit drove no edge at its end, and the frame is destroyed.
abbrev pub sent_beyond : Course → ℕ → ℕ → Bool → ℕ → Course
sent_beyond (Goes s) turn lasted low now =
    if nat_le 39 s.half then Whole
    else (if nat_lt (2 * half_bit) lasted then Destroyed else compared (turned s turn) low now)
sent_beyond Destroyed turn lasted low now = Destroyed
sent_beyond Whole turn lasted low now = Destroyed

abbrev pub sent_until : Sent → Bool → ℕ → Course
sent_until s low now =
    if nat_lt (now - s.since) half_bit then compared s low now
    else sent_beyond
    (compared s low (s.since + half_bit)) (s.since + half_bit) (now - s.since) low now
