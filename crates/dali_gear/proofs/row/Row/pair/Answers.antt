use Rattle.std.proofs.Common.{rules, ap, ◌∙◌, set, get_or, Some}
use Rattle.dali_gear.{specs.Gear.fresh, proofs.RowLemmas.pair_is, proofs.RowLemmas.row_len}
use Rattle.dali_gear.proofs.row.Row.pair.Goals as goal

pub returns : goal.returns
returns c =
    pair_is c.self.inside c.args.number (search (rules, row_len)) (search (rules, row_len)) c.args.first
    ∙ ap (λ gs. set gs c.args.number (record (get_or gs c.args.number fresh) { half = Some c.args.first })) c.self.view_is
