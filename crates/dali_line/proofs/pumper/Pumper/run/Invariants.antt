use Rattle.std.proofs.Common.{◌+◌, ◌≤◌}
use Rattle.dali_line.specs.Driving.{Drives}
use Rattle.dali_line.proofs.pumper.Pumper.run.Given as goal

abbrev pub invariant-loop : goal.invariant-loop
invariant-loop g l =
    (g.B.Bus.driven l.fn.self.driver ≤ g.B.Bus.driven l.driver) × (g.B.Bus.driven l.driver ≤ g.B.Bus.driven l.fn.self.driver + l.counter)
    × Drives g.B.Bus.pumped g.B.Bus.is_stuck g.B.Bus.lapsed (g.B.Bus.driven l.fn.self.driver) (g.B.Bus.driven l.driver) l.counter
