use Rattle.std.proofs.Common.{◌≡◌, drop, nat_lt}
use Rattle.std.specs.List.{list_any}
use Rattle.dali_grammar.proofs.reason.clue.too_large.Given as goal

abbrev pub invariant-loop-index : goal.invariant-loop-index
invariant-loop-index l = list_any (λ draw. nat_lt 0xFFFFFE draw) (drop l.index l.draws) ≡ list_any (λ draw. nat_lt 0xFFFFFE draw) l.draws
