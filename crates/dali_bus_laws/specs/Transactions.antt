use Rattle.std.specs.Prelude.{Bool, true, false, ◌&&◌, ◌||◌, not, List, [], ◌∷◌, if◌then◌else◌}
use Rattle.dali_port.specs.State.{Port, Phase, Free, Waiting, Sending, Breaking, Listening}
use Rattle.dali_port.specs.Ports.{until}
use Rattle.dali_port.specs.Calls.{is_backwards, same_level}
use Rattle.dali_port.specs.Runs.{Call, Sends, Times, Turns, Loses, after}
use Rattle.dali_bus_laws.specs.Pairs.{begins}

-- WHETHER A PORT WAS ALONE since it began its last frame, by its calls: each edge came while that
-- frame was on the bus, with its break or its window, and none was lost.
abbrev pub is_own_in : Phase → Bool
is_own_in Free = false
is_own_in (Waiting order) = false
is_own_in (Sending s) = true
is_own_in (Breaking since) = true
is_own_in (Listening l) = true

abbrev pub is_own : Port → Call → Bool
is_own p (Sends order now) = true
is_own p (Times now) = true
is_own p (Turns low now) =
    is_backwards p now || (not (same_level p.is_low low) && is_own_in (until p now).phase)
is_own p (Loses low now) = is_backwards p now

abbrev pub alone_after : Port → Bool → Call → Bool
alone_after p alone c = if begins p c then true else alone && is_own p c

abbrev pub alone_after_all : Port → Bool → List Call → Bool
alone_after_all p alone [] = alone
alone_after_all p alone (c ∷ calls) = alone_after_all (after p c) (alone_after p alone c) calls
