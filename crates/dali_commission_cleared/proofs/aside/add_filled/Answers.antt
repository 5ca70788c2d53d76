use Rattle.std.proofs.Common.{refl, true}
use Rattle.dali_commission_cleared.proofs.Filled.{not_there, was_read, added}
use Rattle.dali_commission_cleared.proofs.aside.add_filled.Goals as goal

pub returns-then-not-has : goal.returns-then-not-has
returns-then-not-has g c =
    not_there g.F.Stores.saw c.args.stores.now c.args.name.now _ c.in_ok-place.place _ _ c.in_ok-place.ensures c.deref.ensures c.if-not-has.ensures refl

pub returns-then-is_empty : goal.returns-then-is_empty
returns-then-is_empty g c =
    was_read g.F.Stores.saw c.args.stores.now c.args.name.now _ c.in_ok-place.place _ _ c.in_ok-read.field-0 true c.in_ok-place.ensures
    c.deref-2.ensures c.in_ok-read.ensures c.if-is_empty.ensures refl

pub returns-else-is_empty : goal.returns-else-is_empty
returns-else-is_empty g c =
    added g.F.Stores.saw c.args.stores.now c.args.name.now _ c.in_ok-place.place _ _ c.in_ok-read.field-0 c.add.result c.in_ok-place.ensures
    c.deref-2.ensures c.in_ok-read.ensures c.if-is_empty.ensures c.add.ensures
