use Rattle.std.proofs.Common.{◌≡◌, drop, nat_lt}
use Rattle.std.specs.List.{list_any}
use Rattle.dali_grammar.specs.Clues.{number_of}
use Rattle.dali_grammar.proofs.reason.clue.above.Given as goal

abbrev pub invariant-loop-index : goal.invariant-loop-index
invariant-loop-index l = list_any (λ u. nat_lt l.most (number_of l.mark u)) (drop l.index l.used) ≡ list_any (λ u. nat_lt l.most (number_of l.mark u)) l.used
