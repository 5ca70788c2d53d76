use Rattle.std.proofs.Common.{◌≡◌, drop, ◌==◌}
use Rattle.std.specs.List.{list_any}
use Rattle.dali_grammar.proofs.reason.clue.place_of.Given as goal

abbrev pub invariant-loop-index : goal.invariant-loop-index
invariant-loop-index l =
    (list_any (λ other. other == l.number) (drop l.index l.numbers) ≡ list_any (λ other. other == l.number) l.numbers)
    × (list_any (λ other. l.number == other) (drop l.index l.numbers) ≡ list_any (λ other. l.number == other) l.numbers)
