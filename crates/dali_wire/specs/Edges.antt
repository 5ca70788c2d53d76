use Rattle.std.specs.Prelude.{◌≡◌, ◌≤◌, ◌<◌, ℕ, ◌+◌, Bool, true, false, List, [], ◌∷◌, ◌++◌}
use Rattle.dali_wire.specs.declared.receiver.Reading.TheVariants.{Idle}
use Rattle.dali_wire.specs.declared.window.Window.{Window}
use Rattle.dali_wire.specs.Levels.{bits_of}
use Rattle.dali_wire.specs.Times.{IsHalf, AreTimes}
use Rattle.dali_wire.specs.Windows.{window_after}

-- ANY EDGES: of each stands the level after it, true if the bus is low, and the time before it
abbrev pub window_after_all : Window → List (Bool × ℕ) → Window
window_after_all w [] = w
window_after_all w (edge ∷ edges) = window_after_all (window_after w edge.0 edge.1) edges

-- how long they take
abbrev pub time_of : List (Bool × ℕ) → ℕ
time_of [] = 0
time_of (edge ∷ edges) = edge.1 + time_of edges

-- edges by turns, the first one to this level, with these times before them
abbrev pub by_turns : Bool → List ℕ → List (Bool × ℕ)
by_turns low [] = []
by_turns true (time ∷ times) = (true, time) ∷ by_turns false times
by_turns false (time ∷ times) = (false, time) ∷ by_turns true times

-- AT MOST ONE PULSE, before an answer or after it: a high, and a low that is shorter than 100 µs
abbrev pub AtMostOnePulse : List ℕ → List ℕ → Type 0
AtMostOnePulse [] [] = Unit {0}
AtMostOnePulse (high ∷ low ∷ []) [] = low < 100
AtMostOnePulse [] (high ∷ low ∷ []) = low < 100
AtMostOnePulse _ _ = ⊥

-- A WINDOW BEFORE ANY LOW
pub record IsBeforeLow (w : Window) : Type 0 where
  pub reading : w.receiver.reading ≡ Idle
  pub high : w.receiver.is_low ≡ false
  pub none : w.has_pulse ≡ false

-- ECHOES of the last edge of the forward frame: edges to high, with these times before them
abbrev pub rises : List ℕ → List (Bool × ℕ)
rises [] = []
rises (time ∷ times) = (false, time) ∷ rises times

-- how long the bus is high before these times, or before the window is asked
abbrev pub high_before : List ℕ → ℕ → ℕ
high_before [] rest = rest
high_before (time ∷ times) rest = time

-- A BUS AT REST, with one pulse or none; before it echoes, if there are any, in less than 2,400 µs
pub record IsAtRest (edges : List (Bool × ℕ)) : Type 0 where
  pub echoes : List ℕ
  pub times : List ℕ
  pub edges_are : edges ≡ rises echoes ++ by_turns true times
  pub early : time_of (rises echoes) < 2400
  pub pulses : AtMostOnePulse times []

-- ONE BACKWARD FRAME of this byte on such a bus, in its time and with its stop condition: a high,
-- the first low, which is the first half of the start bit, and the times that follow it
pub record IsOneAnswer (edges : List (Bool × ℕ)) (rest byte : ℕ) : Type 0 where
  pub echoes : List ℕ
  pub before : List ℕ
  pub high : ℕ
  pub first : ℕ
  pub times : List ℕ
  pub after : List ℕ
  pub edges_are : edges
      ≡ rises echoes ++ by_turns true (before ++ (high ∷ first ∷ times) ++ after)
  pub early : time_of (rises echoes) < 2400
  pub start : IsHalf first
  pub bits : AreTimes false (bits_of 8 byte) times
  pub pulses : AtMostOnePulse before after
  pub least : 2400 ≤ time_of (rises echoes) + time_of (by_turns true before) + high
  pub most : time_of (rises echoes) + time_of (by_turns true before) + high ≤ 12400
  pub stop : 2400 ≤ high_before after rest
