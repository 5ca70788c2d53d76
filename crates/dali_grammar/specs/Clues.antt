use Rattle.std.specs.Prelude.{ℕ, ◌+◌}
use Rattle.dali_events.specs.declared.used.Used.{Used}
use Rattle.dali_grammar.specs.declared.reason.clue.Spot.{Spot}
use Rattle.dali_grammar.specs.declared.reason.clue.Mark.{Mark}
use Rattle.dali_grammar.specs.declared.reason.clue.Mark.TheVariants as mark

-- WHERE THE WORDS OF A PLAN STAND: blocks in the first line, numbers to draw in the second, and
-- those of used gear in a line each. Words are counted from 1, and behind them one stands by its
-- number from 0.
abbrev pub block_spot : ℕ → Spot
block_spot index = record { line = 0; word = index + 3 }

abbrev pub draw_spot : ℕ → Spot
draw_spot index = record { line = 1; word = index + 2 }

-- what tells used gear apart, and the word that it is
abbrev pub number_of : Mark → Used → ℕ
number_of mark.Gear u = u.gear
number_of mark.Short u = u.short
number_of mark.Random u = u.random

abbrev pub word_of : Mark → ℕ
word_of mark.Gear = 2
word_of mark.Short = 3
word_of mark.Random = 4

abbrev pub used_spot : Mark → ℕ → Spot
used_spot mark index = record { line = index + 2; word = word_of mark }
