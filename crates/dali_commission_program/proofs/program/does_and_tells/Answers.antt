use Rattle.std.proofs.Common.{◌∙◌}
use Rattle.dali_commission_program.proofs.program.does_and_tells.Goals as goal

pub returns-clause-done : goal.returns-clause-done
returns-clause-done g c = (
  c.does-done.result,
  c.writes-written.result,
  rw c.new-session.ensures at c.does-done.ensures,
  c.ended.ensures.same ∙ c.or_refused.ensures,
  c.writes-written.ensures,
)
