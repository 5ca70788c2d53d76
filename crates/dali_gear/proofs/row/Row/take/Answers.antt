use Rattle.std.proofs.Common.{subst}
use Rattle.dali_gear.{specs.Columns.IsUnpaired, proofs.RowLemmas.none_paired}
use Rattle.dali_gear.proofs.row.Row.take.Goals as goal

pub take_by_command-requires-clause-unpaired : goal.take_by_command-requires-clause-unpaired
take_by_command-requires-clause-unpaired c = subst (λ gs. IsUnpaired gs) c.self.view_is (none_paired c.self.inside c.self.invariant c.if-self.false)
