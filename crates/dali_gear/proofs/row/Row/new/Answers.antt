use Rattle.std.proofs.{Common.rules, Common.refl, Common.replicate, Common.true, Common.false, Common.None, Common.arith, lemmas.List.get_or-replicate}
use Rattle.dali_special.specs.declared.command.Command.TheVariants.{Terminate}
use Rattle.dali_gear.{specs.declared.state.InitialisationState.TheVariants.Disabled, proofs.RowLemmas.factory_is}
use Rattle.dali_gear.proofs.row.Row.new.Goals as goal

pub returns : goal.returns
returns c = factory_is (record {
  count = c.args.count;
  powered = replicate 128 true;
  state = replicate 128 Disabled;
  random = c.masked.result;
  search = c.masked-2.result;
  short = replicate 128 None;
  paired = replicate 128 false;
  first = replicate 128 Terminate;
  some_paired = false;
}) c.args.count refl c.requires refl refl c.masked.ensures c.masked-2.ensures refl refl

pub invariant_of-result : goal.invariant_of-result
invariant_of-result c = record {
  few = c.requires;
  random = search rules;
  search = search rules;
  unpaired = λ none k below. get_or-replicate 128 k false false (let few = c.requires in omega arith);
}
