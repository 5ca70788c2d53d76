use Rattle.std.proofs.Common.{◌≡◌, false, take, drop, ◌==◌}
use Rattle.std.specs.List.{list_any}
use Rattle.dali_events.specs.Plan.{any_pair}
use Rattle.dali_grammar.specs.Clues.{number_of}
use Rattle.dali_grammar.proofs.reason.clue.shared.Given as goal

abbrev pub invariant-loop-index : goal.invariant-loop-index
invariant-loop-index l =
    (any_pair (λ u v. number_of l.mark u == number_of l.mark v) (take l.index l.used) ≡ false)
    × (list_any (λ u. list_any (λ draw. number_of l.mark u == draw) l.draws) (drop l.index l.used)
    ≡ list_any (λ u. list_any (λ draw. number_of l.mark u == draw) l.draws) l.used)
