use Rattle.std.proofs.Common.{◌∙◌}
use Rattle.dali_audit_program.proofs.Appending.{appends_as}
use Rattle.dali_audit_program.proofs.telling.write_bench.Goals as goal

pub returns : goal.returns
returns g c = (
  c.in_ok-bench.bench,
  c.in_ok-bench.ensures.bench,
  appends_as _ _ _ _ (c.as_bytes.ensures.value ∙ c.in_ok-text.ensures) c.in_ok-write_all.ensures.bytes,
)
