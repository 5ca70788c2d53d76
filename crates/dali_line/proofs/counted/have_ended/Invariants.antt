use Rattle.std.proofs.Common.{◌≡◌, ◌<◌, ℕ}
use Rattle.dali_script.specs.declared.orders.Due.TheVariants as due
use Rattle.dali_events.specs.World.{controller_at}
use Rattle.dali_standing.specs.Seats.{due_of}
use Rattle.dali_world.specs.Site.{world}
use Rattle.dali_line.proofs.counted.have_ended.Given as goal

abbrev pub invariant-loop-c : goal.invariant-loop-c
invariant-loop-c l = (d : ℕ) → d < l.c → due_of (controller_at (world l.site) d) ≡ due.Nothing
