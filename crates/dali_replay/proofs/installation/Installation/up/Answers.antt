use Rattle.std.proofs.Common.{◌≡◌, ◌<◌, length, Err, rules}
use Rattle.dali_replay.{specs.Installation.Installation, proofs.InStepLemmas.up_installed}
use Rattle.dali_replay.proofs.InstallationLemmas.{store_read, stores_there, up_refused}
use Rattle.dali_replay.proofs.installation.Installation.up.Goals as goal

pub invariant_of-self-2 : goal.invariant_of-self-2
invariant_of-self-2 c =
    let n : Installation = record { site = c.self.inside.site; stores = c.self.inside.stores.items } in
    let there : c.in_ok-c.c < length n.stores =
    stores_there n c.in_ok-c.c c.self.invariant (rw (c.in_ok-c.ensures.known.0) (rw (← c.self.view_is) at c.in_ok-c.ensures.known.1)) in
    up_installed n.site c.up.new.self n.stores c.in_ok-c.c c.read-copy.result c.index_mut.result.now c.read-copy.new.self c.index_mut-2.result.now
    c.settle.new.self
    c.in_ok-up.ensures.up there (store_read n c.in_ok-c.c c.index_mut.result.now c.index_mut.ensures.value there)
    c.read-copy.ensures.copy c.read-copy.ensures.same c.index_mut-2.ensures.value c.settle.ensures c.self.invariant

pub returns-in_err-up : goal.returns-in_err-up
returns-in_err-up c =
    let same : c.from_residual-in_err-up.result ≡ Err c.in_err-up.field-0.0 = search rules in
    let n : Installation = record { site = c.self.inside.site; stores = c.self.inside.stores.items } in
    let there : c.in_ok-c.c < length n.stores =
    stores_there n c.in_ok-c.c c.self.invariant (rw (c.in_ok-c.ensures.known.0) (rw (← c.self.view_is) at c.in_ok-c.ensures.known.1)) in
    rw (← c.self.view_is) (rw same (up_refused n c.args.c c.in_ok-c.c c.up.new.self c.read-copy.result c.index_mut.result.now c.read-copy.new.self
    c.in_err-up.field-0.0
    c.in_ok-c.ensures.known.0 c.in_err-up.ensures.refused c.read-copy.ensures.copy c.read-copy.ensures.same
    (store_read n c.in_ok-c.c c.index_mut.result.now c.index_mut.ensures.value there) c.in_err-up.ensures.unchanged))
