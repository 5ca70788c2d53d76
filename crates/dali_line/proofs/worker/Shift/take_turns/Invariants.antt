use Rattle.std.proofs.Common.{◌≡◌}
use Rattle.std.specs.declared.option.Option.TheVariants.{None}
use Rattle.dali_enrol.specs.Directory.{Keeps}
use Rattle.dali_line.specs.{Facts.facts_of, Leaves.Leaves, Leaves.Posts, Runs.Runs, Shares.Follows}
use Rattle.dali_line.proofs.worker.Shift.take_turns.Given as goal

abbrev pub invariant-loop : goal.invariant-loop
invariant-loop g l = record {
  port : Follows (g.B.Bus.share l.fn.self.port) (g.B.Bus.share l.self.port) l.counter;
  keep : Leaves g.K.Keep.is_up g.K.Keep.is_sound g.K.Keep.holds l.fn.self.keep l.self.keep;
  pass : l.pass.places ≡ l.directory;
  known : Keeps l.fn.pass l.pass;
  posted : Posts g.K.Keep.is_up g.K.Keep.is_sound g.K.Keep.holds l.fn.self.keep l.self.keep l.fn.pass l.pass;
  runs : Runs g.K.Keep.is_up g.K.Keep.is_sound g.K.Keep.holds g.K.Keep.block
      (facts_of g.B.Bus.acted g.B.Bus.refused g.B.Bus.told g.B.Bus.untold g.B.Bus.unordered g.B.Bus.ordered g.B.Bus.is_down
      (g.B.Bus.is_stopped l.bus) l.surveys)
      l.fn.self.last l.self.last (g.B.Bus.share l.fn.self.port) (g.B.Bus.share l.self.port) l.fn.self.keep l.self.keep l.fn.pass l.pass l.counter None;
}
