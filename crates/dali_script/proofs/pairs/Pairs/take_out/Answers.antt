use Rattle.std.proofs.Common.{◌∙◌}
use Rattle.dali_script.{specs.Pairs.pairs_in, proofs.Lists.without_place}
use Rattle.dali_script.proofs.pairs.Pairs.take_out.Goals as goal

pub returns-in-Some-clause-pairs : goal.returns-in-Some-clause-pairs
returns-in-Some-clause-pairs c =
    let found = rw c.as_slice.ensures.value at c.in-Some.ensures in
    c.remove.ensures.pairs ∙ without_place c.args.gone (pairs_in c.args.self.now) c.in-Some.place c.args.gone c.requires.map.address_once found.0 found.1
