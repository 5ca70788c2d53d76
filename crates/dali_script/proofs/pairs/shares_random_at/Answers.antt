use Rattle.std.proofs.Common.{◌<◌, length, subst}
use Rattle.dali_script.{specs.Records.HasRandom, proofs.Lists.has_map, proofs.Lists.next_there}
use Rattle.dali_script.proofs.pairs.shares_random_at.Goals as goal

pub returns-then-place-pairs : goal.returns-then-place-pairs
returns-then-place-pairs c is =
    let p = c.index-pairs-place.result in
    let inside : c.from-place.result < length c.args.pairs.now = c.if-place-pairs.true in
    let there = next_there c.args.pairs.now c.from-place.result p inside c.index-pairs-place.is in
    subst (λ n. HasRandom c.args.pairs.now n) (c.shares_random.ensures.0 is) (has_map (λ q. q.1) c.args.pairs.now p there)
