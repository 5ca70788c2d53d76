use Rattle.std.proofs.Common.{◌≡◌, ℕ, ◌<◌, slice_index_or, rules, length}
use Rattle.dali_c.{specs.Pairs.random_of, specs.declared.pairs.PlainRandom.PlainRandom, proofs.Lists.mapped}
use Rattle.dali_c.proofs.tallies.read_numbers.Goals as goal

at : (c : goal.After-map) (i : ℕ) (d : PlainRandom) (e : ℕ) → i < 8 → slice_index_or c.map.result i e ≡ random_of (slice_index_or c.args.bytes i d)
at c i d e less = let x = c.map.ensures.items.at i d e less in search rules

long : (c : goal.After-map) → length c.args.bytes ≡ 8
long c = search rules

pub returns : goal.returns
returns c =
    let none : PlainRandom = record { high = 0; middle = 0; low = 0 } in
    mapped random_of c.args.bytes c.map.result none (long c) c.map.ensures.items.long (λ i e less. at c i none e less)
