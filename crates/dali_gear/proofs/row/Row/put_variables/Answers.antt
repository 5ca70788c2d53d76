use Rattle.std.proofs.Common.{rules, ap₂, ◌∙◌, set, get_or, List}
use Rattle.dali_gear.{specs.Gear.Gear, specs.Gear.fresh, specs.contracts.gear.Gear.the_view, proofs.RowLemmas.put_variables_is, proofs.RowLemmas.row_len}
use Rattle.dali_gear.proofs.row.Row.put_variables.Goals as goal

pub returns : goal.returns
returns c =
    put_variables_is c.self.inside c.args.number (search (rules, row_len)) (search (rules, row_len))
    (the_view c.gear.inside) c.of.result c.set.new.self c.set-2.new.self c.of.ensures.value c.set.ensures c.set-2.ensures
    ∙ ap₂ {B = Gear} {C = List Gear} (λ gs g. set gs c.args.number (record g { half = (get_or gs c.args.number fresh).half })) c.self.view_is c.gear.view_is
