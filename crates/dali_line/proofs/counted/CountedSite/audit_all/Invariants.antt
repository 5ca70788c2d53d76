use Rattle.std.proofs.Common.{◌≡◌, ◌<◌, ℕ, slice_index_or}
use Rattle.dali_line.{specs.Shares.PortShare, proofs.Closing.IsExact}
use Rattle.dali_line.proofs.counted.CountedSite.audit_all.Given as goal

abbrev pub invariant-loop-place : goal.invariant-loop-place
invariant-loop-place g l = record {
  site : l.self.site ≡ l.fn.self.site;
  ports : l.ports ≡ l.fn.ports;
  exact : (i : ℕ) (none : PortShare) → i < l.place → IsExact l.fn.self.site.log (slice_index_or l.fn.ports i none);
}
