use Rattle.std.proofs.Common.{◌≡◌, ◌≤◌, ◌+◌, ◌++◌, length, option_map}
use Rattle.std.specs.Option.{option_map_or}
use Rattle.dali_grammar.specs.{Lines.parts_after, Numbers.randoms_of}
use Rattle.dali_grammar.proofs.heading.drawn_of.Given as goal

abbrev pub invariant-loop-rest : goal.invariant-loop-rest
invariant-loop-rest l = record {
  draws : option_map (λ more. l.draws.items ++ more) (randoms_of (parts_after 32 (option_map (λ rest. rest.now) l.rest)))
      ≡ randoms_of (parts_after 32 (option_map (λ rest. rest.now) l.initial.rest));
  count : length l.draws.items + length (parts_after 32 (option_map (λ rest. rest.now) l.rest))
      ≡ length (parts_after 32 (option_map (λ rest. rest.now) l.initial.rest));
  few : length l.draws.items ≤ 1024;
}

abbrev pub decreases-loop-rest : goal.decreases-loop-rest
decreases-loop-rest l = option_map_or (λ rest. length rest.now + 1) l.rest 0
