use Rattle.std.proofs.Common.{sym}
use Rattle.sqlite.specs.Recovery.{Image}
use Rattle.dali_commission_files.proofs.Found.{stored}
use Rattle.dali_commission_files.proofs.Told.{whole}
use Rattle.dali_commission_files.proofs.files.copied.Goals as goal

pub returns-in-Ok-clause-copy : goal.returns-in-Ok-clause-copy
returns-in-Ok-clause-copy g c =
    let image : Image = record { log = c.in_ok-lying.lying.log.items; db = c.in_ok-lying.lying.db.items } in
    let here = stored image c.deref-2.result.now c.deref-3.result.now c.in-Ok.store c.deref-2.ensures.value c.deref-3.ensures.value c.in-Ok.ensures.ours
    c.in-Ok.ensures.found in (
      image,
      c.in_ok-lying.ensures.read,
      whole c.is_damaged.result c.deref.result.now image.log c.if-is_damaged.false c.is_damaged.ensures (sym c.deref.ensures.value),
      here.0,
      here.1,
    )
