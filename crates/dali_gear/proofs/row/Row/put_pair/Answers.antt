use Rattle.std.proofs.Common.{rules, ap, ◌∙◌, set, get_or, None, if◌then◌else◌}
use Rattle.dali_gear.{specs.Gear.fresh, proofs.RowLemmas.put_pair_is, proofs.RowLemmas.put_pair_unpaired, proofs.RowLemmas.row_len}
use Rattle.dali_gear.proofs.row.Row.put_pair.Goals as goal

pub returns : goal.returns
returns c =
    put_pair_is c.self.inside c.args.number (search (rules, row_len)) (search (rules, row_len)) c.args.stays (rw (← c.self.view_is) at c.requires.one)
    ∙ ap (λ gs. set gs c.args.number (record (get_or gs c.args.number fresh) { half = if c.args.stays then (get_or gs c.args.number fresh).half else None }))
    c.self.view_is

pub invariant_of-self : goal.invariant_of-self
invariant_of-self c = record {
  few = c.self.invariant.few;
  random = c.self.invariant.random;
  search = c.self.invariant.search;
  unpaired =
      put_pair_unpaired c.self.inside c.args.number (search (rules, row_len)) (search (rules, row_len)) c.args.stays
      (rw (← c.self.view_is) at c.requires.one) c.self.invariant;
}
