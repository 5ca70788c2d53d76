use Rattle.std.proofs.Common.{◌≡◌, ◌++◌, drop, codes, option_map}
use Rattle.dali_grammar.specs.Numbers.{blocks_of}
use Rattle.dali_words.specs.Lines.{values_of}
use Rattle.dali_command_line.proofs.words.blocks.Given as goal

abbrev pub invariant-loop-name : goal.invariant-loop-name
invariant-loop-name l =
    option_map (λ more. l.blocks.items ++ more) (blocks_of (values_of (codes "blocks") (drop l.name-index l.line.values.items)))
    ≡ blocks_of (values_of (codes "blocks") l.line.values.items)
