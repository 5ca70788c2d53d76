use Rattle.std.proofs.Common.{◌≡◌, ◌++◌, map, drop, string_bytes}
use Rattle.dali_words.specs.Lines.{pair_of, all_found}
use Rattle.dali_words.proofs.line.CommandLine.of.Given as goal

abbrev pub invariant-loop-word : goal.invariant-loop-word
invariant-loop-word l = record {
  name : string_bytes l.line.subcommand ≡ l.from.name.now;
  values : map pair_of l.line.values.items ++ all_found l.found (drop l.word-index l.from.words.now)
      ≡ all_found l.found l.from.words.now;
}
