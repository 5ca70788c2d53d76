use Rattle.std.proofs.Common.{sym}
use Rattle.dali_audit_program.proofs.Appending.{appends_as, appends_further, log_more}
use Rattle.dali_audit_program.proofs.telling.write_items.Goals as goal

pub loop-item-preserved : goal.loop-item-preserved
loop-item-preserved g c = record {
  told = appends_as _ _ _ _ (sym (log_more c.args.items.now c.loop-item.item-index _ c.loop-item-test.true))
      (appends_further _ _ _ _ _ c.loop-item.invariant.told c.in_ok-writeln.ensures.bytes);
}
