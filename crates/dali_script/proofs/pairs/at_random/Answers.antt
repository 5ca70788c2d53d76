use Rattle.std.proofs.Common.{◌≡◌, ◌<◌, ◌∙◌, length, arith}
use Rattle.dali_script.proofs.{Fronts.address_at, Fronts.short_found, Lists.pair_here}
use Rattle.dali_script.proofs.pairs.at_random.Goals as goal

pub returns-then-shares_random : goal.returns-then-shares_random
returns-then-shares_random c =
    let p = c.index-pairs-from.result in
    let same : p.1 ≡ c.args.random = c.shares_random.ensures.0 c.if-shares_random.true ∙ c.sharing-wanted.ensures in
    let inside : c.loop-place.place < length c.args.pairs.now = omega (arith, c.loop-place-test.true) in
    let is = rw c.from.ensures at c.index-pairs-from.is in
    short_found c.of.result c.args.pairs.now p.0 c.args.random (rw c.address.ensures at c.of.ensures.range) (rw c.address.ensures at c.of.ensures.value)
    (c.requires.short p.0 (address_at c.args.pairs.now _ p inside is)) (pair_here c.args.pairs.now _ c.args.random p inside is same)
