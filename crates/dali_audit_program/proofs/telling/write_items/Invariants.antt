use Rattle.std.proofs.Common.{take}
use Rattle.std.specs.Io.Buffered.{writer_contents}
use Rattle.std.specs.Io.KnownBytes.{Appends}
use Rattle.dali_capture.specs.Spelled.{log_text}
use Rattle.dali_audit_program.proofs.telling.write_items.Given as goal

abbrev pub invariant-loop-item : goal.invariant-loop-item
invariant-loop-item g l = record {
  told : Appends (writer_contents g.W.Write.contents l.fn.writer) (writer_contents g.W.Write.contents l.writer)
      (log_text (take l.item-index l.items));
}
