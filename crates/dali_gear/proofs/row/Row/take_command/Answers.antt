use Rattle.std.proofs.Common.{◌∙◌, sym, true≢false, subst}
use Rattle.dali_gear.{specs.Columns.IsUnpaired, proofs.RowLemmas.none_paired}
use Rattle.dali_gear.proofs.row.Row.take_command.Goals.{then-self, else-self}
use Rattle.dali_gear.proofs.row.Row.take_command.Goals as goal

pub take_each-requires-clause-unpaired : goal.take_each-requires-clause-unpaired
take_each-requires-clause-unpaired c = λ off. elim c.if-self.branch [
  | then-self w ↦ absurd (true≢false (sym w.if-self.true ∙ sym w.value-is ∙ c.if-is_send_twice.false))
  | else-self w ↦ (
    sym w.is_send_twice.ensures ∙ sym w.value-is ∙ c.if-is_send_twice.false,
    subst (λ gs. IsUnpaired gs) c.self.view_is (none_paired c.self.inside c.self.invariant w.if-self.false),
  )
]
