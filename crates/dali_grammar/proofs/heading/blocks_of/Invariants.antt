use Rattle.std.proofs.Common.{◌≡◌, ◌+◌, ◌++◌, length, option_map}
use Rattle.std.specs.Option.{option_map_or}
use Rattle.dali_grammar.specs.{Lines.parts_after, Numbers.blocks_of}
use Rattle.dali_grammar.proofs.heading.blocks_of.Given as goal

abbrev pub invariant-loop-rest : goal.invariant-loop-rest
invariant-loop-rest l = option_map (λ more. l.blocks.items ++ more) (blocks_of (parts_after 32 (option_map (λ rest. rest.now) l.rest)))
    ≡ blocks_of (parts_after 32 (option_map (λ rest. rest.now) l.words))

abbrev pub decreases-loop-rest : goal.decreases-loop-rest
decreases-loop-rest l = option_map_or (λ rest. length rest.now + 1) l.rest 0
