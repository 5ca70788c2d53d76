use Rattle.std.specs.Prelude.{ℕ}

-- THE TABLE: what is assumed of the bus, and of those who stand on it. Each number stands here
-- once.
pub record Table : Type 0 where
  -- between two edges of the bus a party sees at most so many µs more or fewer than passed: its
  -- rises and falls come late by times that differ by no more than that (slopes, transceivers)
  pub differ : ℕ
  -- a clock gains or loses at most so many parts of 1,000, and counts whole µs
  pub clock : ℕ
  -- a port that drives low sees the bus low at most so many µs later, and until it lets go: the bus
  -- is low while any party drives it low
  pub late : ℕ
  -- while a port sends, its host calls it at most so many µs after the call before
  pub stall : ℕ

abbrev pub table : Table
table = record { differ = 18; clock = 5; late = 50; stall = 834 }
