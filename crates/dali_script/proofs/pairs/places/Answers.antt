use Rattle.std.proofs.Common.{◌<◌, length, arith}
use Rattle.dali_script.proofs.Fronts.{address_at}
use Rattle.dali_script.proofs.pairs.places.Goals as goal

pub bounds-places-from : goal.bounds-places-from
bounds-places-from c =
    let p = c.index-pairs-from.result in
    let inside : c.loop-place.place < length c.args.pairs.now = omega (arith, c.loop-place-test.true) in
    rw (c.from-in-loop-place.ensures, c.address.ensures)
    (c.requires.short p.0 (address_at c.args.pairs.now c.loop-place.place p inside (rw c.from.ensures at c.index-pairs-from.is)))
