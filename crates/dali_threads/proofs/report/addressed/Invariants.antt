use Rattle.std.proofs.Common.{◌≡◌, ◌≤◌}
use Rattle.dali_world.specs.Site.{world}
use Rattle.dali_threads.specs.Report.{addressed}
use Rattle.dali_threads.proofs.report.addressed.Given as goal

abbrev pub invariant-loop-number : goal.invariant-loop-number
invariant-loop-number l = record {
  count : l.addressed ≡ addressed (world l.site) l.number;
  few : l.addressed ≤ l.number;
}
