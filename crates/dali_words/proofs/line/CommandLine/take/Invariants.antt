use Rattle.std.proofs.Common.{◌≡◌, ◌++◌, map, take}
use Rattle.dali_words.specs.Lines.{pair_of}
use Rattle.dali_words.proofs.line.CommandLine.take.Given as goal

abbrev pub invariant-loop-value : goal.invariant-loop-value
invariant-loop-value l = record {
  subcommand : l.self.subcommand ≡ l.fn.self.subcommand;
  values : map pair_of l.self.values.items
      ≡ map pair_of l.fn.self.values.items ++ map (λ value. (l.name, value.now)) (take l.value-index l.values);
}
