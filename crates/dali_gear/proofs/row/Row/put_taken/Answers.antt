use Rattle.std.proofs.Common.{◌∙◌, ap, is_some}
use Rattle.dali_gear.proofs.RowLemmas.{put_whole}
use Rattle.dali_gear.proofs.row.Row.put_taken.Goals as goal

pub returns-then-paired : goal.returns-then-paired
returns-then-paired c =
    c.put_pair.ensures
    ∙ put_whole c.args.self.now c.put_variables.new.self c.args.number c.args.gear.now c.requires.there c.put_variables.ensures c.requires.half
    c.is_some.result (c.is_some.ensures ∙ ap (λ g. is_some g.half) c.gear.view_is)
