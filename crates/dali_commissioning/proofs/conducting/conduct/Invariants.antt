use Rattle.std.proofs.Common.{◌≡◌, Some, IfSome}
use Rattle.dali_script.specs.{Due.record_ordered, Records.Fits}
use Rattle.dali_commissioning.specs.{Conducted.IsAt, Drivers.talk_of}
use Rattle.dali_commissioning.proofs.conducting.conduct.Given as goal

abbrev pub invariant-loop : goal.invariant-loop
invariant-loop g l = record {
  at : IsAt g.K.Keep.is_up g.K.Keep.is_sound g.K.Keep.holds l.fn.keep l.keep l.fn.machine l.machine
      (talk_of g.R.Read.remaining g.W.Write.contents l.fn.driver) (talk_of g.R.Read.remaining g.W.Write.contents l.driver)
      l.fn.start l.waiting l.order l.committed l.counter;
  block : g.K.Keep.block l.keep ≡ g.K.Keep.block l.fn.keep;
  same : g.K.Keep.block l.keep ≡ l.machine.kept.block;
  fits : IfSome (record_ordered (Some l.order)) (Fits l.machine.kept.block);
}
