use Rattle.std.proofs.Common.{Some, refl, rules, ap, sym, ◌∙◌}
use Rattle.dali_c.proofs.Machines.{has_leg}
use Rattle.dali_c.proofs.state.PlainState.set.Goals as goal

pub returns-clause-more : goal.returns-clause-more
returns-clause-more c = search rules

pub returns-clause-spells : goal.returns-clause-spells
returns-clause-spells c = record {
  version = refl;
  id = c.requires;
  tries = refl;
  silent = refl;
  purpose = c.purpose_code-purpose.ensures;
  number = search rules;
  leg = record {
    opened = c.bool_code-self.ensures ∙ ap Some c.is_searching.ensures;
    way = c.way_code-self.ensures ∙ ap Some c.way.ensures;
    has = has_leg _ _ (returns-clause-more c);
  };
  finding = c.of-self-4.ensures;
  last = c.of-self-5.ensures.spelled;
  heard = sym c.shorts_bytes-self.ensures;
  tally = c.of-self-6.ensures;
  trace = search rules;
}
