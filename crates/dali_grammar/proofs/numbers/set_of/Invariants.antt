use Rattle.std.proofs.Common.{◌≡◌, ◌+◌, length, option_map}
use Rattle.std.specs.Option.{option_map_or}
use Rattle.dali_grammar.specs.{Lines.parts_of, Lines.parts_after, Numbers.set_from}
use Rattle.dali_grammar.proofs.numbers.set_of.Given as goal

abbrev pub invariant-loop-rest : goal.invariant-loop-rest
invariant-loop-rest l = set_from l.set (parts_after 44 (option_map (λ rest. rest.now) l.rest)) ≡ set_from 0 (parts_of 44 l.fn.word)

abbrev pub decreases-loop-rest : goal.decreases-loop-rest
decreases-loop-rest l = option_map_or (λ rest. length rest.now + 1) l.rest 0
