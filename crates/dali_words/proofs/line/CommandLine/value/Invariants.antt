use Rattle.std.proofs.Common.{◌≡◌, drop}
use Rattle.std.specs.Prelude.{slice_get}
use Rattle.dali_words.specs.Lines.{values_of}
use Rattle.dali_words.proofs.line.CommandLine.value.Given as goal

abbrev pub invariant-loop-word : goal.invariant-loop-word
invariant-loop-word l =
    slice_get (values_of l.name (drop l.word-index l.self.values.items)) 0 ≡ slice_get (values_of l.name l.self.values.items) 0
