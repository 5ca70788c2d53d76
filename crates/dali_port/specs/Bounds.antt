use Rattle.std.specs.Prelude.{◌≡◌, ℕ, ◌+◌, ◌*◌, ◌≤◌, max, true}
use Rattle.std.specs.Prelude.{false, List, [], ◌∷◌, Option, Some, None}
use Rattle.dali_wire.specs.Windows.{is_idle}
use Rattle.dali_port.specs.declared.orders.Order.{Order}
use Rattle.dali_port.specs.State.{Port}
use Rattle.dali_port.specs.Times.{half_bit, settling_of, draw_time}
use Rattle.dali_port.specs.Calls.{drive_of, same_level}
use Rattle.dali_port.specs.Laws.{is_waiting}
use Rattle.dali_port.specs.Runs.{Call, Sends, Times, Turns, Loses, time_of, after}

-- HOW LONG A FRAME TAKES, in µs. A bus is at rest if it is high and nothing is read on it. Then a
-- frame waits for the settling time of its priority and what was drawn, and until no gear draws.
abbrev pub IsAtRest : Port → Type 0
IsAtRest p = (p.is_low ≡ false) × (is_idle p.receiver.reading ≡ true)

abbrev pub drawn_by : Option ℕ → ℕ
drawn_by None = 0
drawn_by (Some draws) = draws + draw_time

abbrev pub begins_by : Port → Order → ℕ
begins_by p order =
    max p.called (max (p.edge + (settling_of order.priority + order.drawn)) (drawn_by p.draws))

-- It has 40 half bits with its stop condition. After it a bus that does not come to rest is given
-- up, and a break is shorter. The timer is called late when the frame begins and when it ends.
abbrev pub heard_time : ℕ
heard_time = 50000

abbrev pub ends_by : Port → Order → ℕ → ℕ
ends_by p order late = begins_by p order + (40 * half_bit + heard_time + 2 * late)

-- A CALL IS IN TIME: at most so many µs after a port asked to be called, or after the last call
abbrev pub IsBy : Option ℕ → ℕ → ℕ → ℕ → Type 0
IsBy None called late time = Unit {0}
IsBy (Some at) called late time = time ≤ max at called + late

-- NO EDGE DISTURBS: none comes while a frame waits, and none is lost
abbrev pub IsSeen : Port → Call → Type 0
IsSeen p (Sends order now) = Unit {0}
IsSeen p (Times now) = Unit {0}
IsSeen p (Turns low now) = (is_waiting p.phase ≡ false) × (same_level p.is_low low ≡ false)
IsSeen p (Loses low now) = ⊥

abbrev pub AreInTime : ℕ → Port → List Call → Type 0
AreInTime late p [] = Unit {0}
AreInTime late p (c ∷ calls) =
    IsBy (drive_of p).at p.called late (time_of c) × IsSeen p c × AreInTime late (after p c) calls
