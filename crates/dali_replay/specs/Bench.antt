use Rattle.std.specs.Prelude.{ℕ, List, length, drop, replicate, map, Bool, nat_lt, nat_le}
use Rattle.std.specs.Prelude.{slice_set, slice_index_or, if◌then◌else◌}
use Rattle.dali_special.specs.declared.command.Command.{Command}
use Rattle.dali_special.specs.Command.{command_of}
use Rattle.dali_gear.specs.declared.row.Reach.TheVariants.{Everyone}
use Rattle.dali_gear.specs.Gear.{Gear, fresh, without_power, with_power, gear_expired, gear_quieted}
use Rattle.dali_gear.specs.Row.{row_after, draws_needed}
use Rattle.dali_events.specs.Used.{with_used}
use Rattle.dali_events.specs.Plan.{Plan}
use Rattle.dali_grammar.specs.declared.bench_line.BenchLine.{BenchLine}
use Rattle.dali_grammar.specs.declared.bench_line.BenchLine.TheVariants.{Frame, Off, On, Expire}
use Rattle.dali_grammar.specs.declared.bench_line.BenchLine.TheVariants.{Quiet, Show}

-- a bench: its gear, and the numbers that are left to be drawn
pub record BenchState : Type 0 where
  pub gear : List Gear
  pub left : List ℕ

-- a bench as it is set up
abbrev pub start : Plan → BenchState
start p = record { gear = with_used (replicate p.gear fresh) p.used; left = p.draws }

-- the numbers that a command would make the gear draw, and whether there are as many
abbrev pub needed : BenchState → Command → ℕ
needed w c = draws_needed Everyone c 0 w.gear

abbrev pub is_enough : BenchState → Command → Bool
is_enough w c = nat_le (needed w c) (length w.left)

-- all powered gear take the frame, in order of their number, unless too few numbers are left
abbrev pub after_command : BenchState → Command → BenchState
after_command w c =
    if is_enough w c
    then record { gear = row_after Everyone c 0 w.gear w.left; left = drop (needed w c) w.left }
    else w

-- something befalls gear g, if there is one
abbrev pub with_gear : BenchState → ℕ → (Gear → Gear) → BenchState
with_gear w g change =
    if nat_lt g (length w.gear)
    then record w { gear = slice_set w.gear g (change (slice_index_or w.gear g fresh)) }
    else w

abbrev pub after : BenchState → BenchLine → BenchState
after w (Frame frame) = after_command w (command_of frame)
after w (Off g) = with_gear w g without_power
after w (On g) = with_gear w g with_power
after w (Expire g) = with_gear w g gear_expired
after w Quiet = record w { gear = map gear_quieted w.gear }
after w Show = w
