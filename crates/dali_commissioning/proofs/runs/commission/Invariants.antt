use Rattle.std.proofs.Common.{◌≡◌, ◌<◌}
use Rattle.dali_commissioning.{specs.Drivers.talk_of, proofs.Ran.HasRun}
use Rattle.dali_commissioning.proofs.runs.commission.Given as goal

abbrev pub invariant-loop : goal.invariant-loop
invariant-loop g l = record {
  ran : HasRun g.K.Keep.is_up g.K.Keep.is_sound g.K.Keep.holds (g.K.Keep.block l.fn.keep) l.start l.fn.keep l.keep
      (talk_of g.R.Read.remaining g.W.Write.contents l.fn.driver) (talk_of g.R.Read.remaining g.W.Write.contents l.driver) l.quiet l.counter;
  few : l.quiet < l.quiet_runs;
  block : g.K.Keep.block l.keep ≡ g.K.Keep.block l.fn.keep;
}
