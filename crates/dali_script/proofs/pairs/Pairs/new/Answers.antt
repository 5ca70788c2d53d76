use Rattle.dali_script.proofs.Fronts.{alike}
use Rattle.dali_script.proofs.pairs.Pairs.new.Goals as goal

pub returns-clause-cleared : goal.returns-clause-cleared
returns-clause-cleared c i past = alike 64 i c.default.result (0, 0) c.default.ensures
