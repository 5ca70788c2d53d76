use Rattle.std.proofs.Common.{◌≡◌, ◌<◌, length, arith}
use Rattle.dali_script.proofs.Lists.{pair_there}
use Rattle.dali_script.proofs.pairs.at_address.Goals as goal

pub returns-then-address-wanted-clause-found : goal.returns-then-address-wanted-clause-found
returns-then-address-wanted-clause-found c =
    let p = c.index-pairs-from.result in
    let same : p.0 ≡ c.args.address = cc in
    let inside : c.loop-place.place < length c.args.pairs.now = omega (arith, c.loop-place-test.true) in
    rw c.random.ensures (pair_there c.args.pairs.now _ c.args.address p inside (rw c.from.ensures at c.index-pairs-from.is) same)
