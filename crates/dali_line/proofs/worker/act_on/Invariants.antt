use Rattle.std.proofs.Common.{◌≡◌}
use Rattle.dali_line.proofs.worker.act_on.Given as goal

abbrev pub invariant-loop : goal.invariant-loop
invariant-loop g l = g.B.Bus.share l.port ≡ g.B.Bus.share l.fn.port
