use Rattle.std.proofs.Common.{◌≡◌, drop, ◌==◌}
use Rattle.std.specs.List.{list_any}
use Rattle.dali_grammar.specs.Clues.{number_of}
use Rattle.dali_grammar.proofs.reason.clue.place_in.Given as goal

abbrev pub invariant-loop-index : goal.invariant-loop-index
invariant-loop-index l = list_any (λ u. number_of l.mark u == l.number) (drop l.index l.used) ≡ list_any (λ u. number_of l.mark u == l.number) l.used
