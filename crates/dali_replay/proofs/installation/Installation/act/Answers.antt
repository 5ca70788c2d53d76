use Rattle.std.proofs.Common.{◌≡◌, ◌<◌, length, Err, refl, rules}
use Rattle.dali_replay.{specs.Installation.Installation, proofs.InStepLemmas.act_installed}
use Rattle.dali_replay.proofs.InstallationLemmas.{acted_of, refused_of, fits_store, block_read, store_read, stepped_of, stores_there}
use Rattle.dali_replay.proofs.installation.Installation.act.Goals as goal

pub returns-in_err-receipt-clause-refused : goal.returns-in_err-receipt-clause-refused
returns-in_err-receipt-clause-refused c =
    let is : c.from_residual.result ≡ Err c.in_err-receipt.field-0.0 = search rules in
    rw (is, ← c.self.view_is) (refused_of c.self.inside.site c.args.c c.args.input _ _ _ refl c.in_err-receipt.ensures.answer)

pub await_commit-requires : goal.await_commit-requires
await_commit-requires c =
    let n : Installation = record { site = c.self.inside.site; stores = c.self.inside.stores.items } in
    fits_store _ _ _ _ c.in_ok-receipt.ensures.fits c.order.ensures
    (block_read n c.args.c c.index_mut.result.now c.self.invariant c.index_mut.ensures.value (rw (← c.self.view_is) at c.requires.known))

pub returns-clause-stepped : goal.returns-clause-stepped
returns-clause-stepped c =
    let n : Installation = record { site = c.self.inside.site; stores = c.self.inside.stores.items } in
    rw (← c.self.view_is) (stepped_of n _ c.args.c c.args.input c.in_ok-receipt.receipt c.order-2.result c.order.result c.index_mut.result.now
    c.await_commit.new.self
    (acted_of _ _ _ _ _ _ refl c.in_ok-receipt.ensures.answer) c.order-2.ensures c.order.ensures
    (store_read n c.args.c c.index_mut.result.now c.index_mut.ensures.value
    (stores_there n c.args.c c.self.invariant (rw (← c.self.view_is) at c.requires.known)))
    c.await_commit.ensures refl)

pub invariant_of-self-2 : goal.invariant_of-self-2
invariant_of-self-2 c =
    let n : Installation = record { site = c.self.inside.site; stores = c.self.inside.stores.items } in
    let there : c.args.c < length n.stores = stores_there n c.args.c c.self.invariant (rw (← c.self.view_is) at c.requires.known) in
    act_installed n.site c.act.new.self n.stores c.args.c c.args.input c.in_ok-receipt.receipt c.order.result c.index_mut.result.now c.await_commit.new.self
    (acted_of _ _ _ _ _ _ refl c.in_ok-receipt.ensures.answer) c.order.ensures there
    (store_read n c.args.c c.index_mut.result.now c.index_mut.ensures.value there)
    (rw (← c.self.view_is) at c.requires.made) c.await_commit.ensures c.self.invariant
