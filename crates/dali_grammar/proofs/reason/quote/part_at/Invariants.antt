use Rattle.std.proofs.Common.{◌≡◌, ◌+◌, length, slice_get, option_map}
use Rattle.std.specs.Option.{option_map_or}
use Rattle.dali_grammar.specs.Lines.{parts_of, parts_after}
use Rattle.dali_grammar.proofs.reason.quote.part_at.Given as goal

abbrev pub invariant-loop-rest : goal.invariant-loop-rest
invariant-loop-rest l = slice_get (parts_after l.mark (option_map (λ rest. rest.now) l.rest)) l.left ≡ slice_get (parts_of l.mark l.fn.text) l.index

abbrev pub decreases-loop-rest : goal.decreases-loop-rest
decreases-loop-rest l = option_map_or (λ rest. length rest.now + 1) l.rest 0
