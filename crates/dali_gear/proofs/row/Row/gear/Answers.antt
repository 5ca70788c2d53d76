use Rattle.std.proofs.Common.{rules, ◌≡◌, Some, ap, ◌∙◌, get_or}
use Rattle.dali_frame.specs.Random.{value_of}
use Rattle.dali_gear.{specs.Gear.fresh, proofs.RowLemmas.gear_is, proofs.RowLemmas.row_len, proofs.RowLemmas.half_there, proofs.RowLemmas.half_gone}
use Rattle.dali_gear.proofs.row.Row.gear.Goals.{then-self-number, else-self-number}
use Rattle.dali_gear.proofs.row.Row.gear.Goals as goal

pub returns : goal.returns
returns c =
    gear_is c.self.inside c.args.number c.value.result c.get-2.result c.index-self-number.result c.if-self-number.result (search (rules, row_len))
    (search (rules, row_len))
    (c.value.ensures ∙ ap (λ s. value_of s) c.get.ensures) c.get-2.ensures
    (elim c.if-self-number.branch [
      | then-self-number w ↦
          let is : c.if-self-number.result ≡ Some (get_or c.self.inside.first c.args.number w.index-self-number-then-self-number.result) = w.result-is in
          is ∙ half_there c.self.inside.paired c.self.inside.first c.args.number w.index-self-number-then-self-number.result
          (search (rules, row_len)) w.if-self-number.true
      | else-self-number w ↦ w.result-is ∙ half_gone c.self.inside.paired c.self.inside.first c.args.number w.if-self-number.false
    ])
    ∙ ap (λ gs. get_or gs c.args.number fresh) c.self.view_is
