use Rattle.std.specs.Prelude.{ℕ, Bool, false, ◌&&◌, not, List, [], ◌∷◌, Option, Some, None}
use Rattle.std.specs.Prelude.{if◌then◌else◌}
use Rattle.dali_port.specs.Orders.{is_first}
use Rattle.dali_port.specs.State.{Port, Phase, Free, Waiting, Sending, Breaking, Listening}
use Rattle.dali_port.specs.Laws.{is_sending}
use Rattle.dali_port.specs.Runs.{Call, after, time_of}

-- WHEN THE FIRST FRAME OF A PAIR BEGAN, by the calls of a port, if it is the last frame that the
-- port began
abbrev pub begins : Port → Call → Bool
begins p c = not (is_sending p.phase) && is_sending (after p c).phase

abbrev pub is_first_in : Phase → Bool
is_first_in Free = false
is_first_in (Waiting order) = false
is_first_in (Sending s) = is_first s.order.half
is_first_in (Breaking since) = false
is_first_in (Listening l) = false

abbrev pub first_after : Port → Option ℕ → Call → Option ℕ
first_after p first c =
    if begins p c then (if is_first_in (after p c).phase then Some (time_of c) else None) else first

abbrev pub first_after_all : Port → Option ℕ → List Call → Option ℕ
first_after_all p first [] = first
first_after_all p first (c ∷ calls) = first_after_all (after p c) (first_after p first c) calls
