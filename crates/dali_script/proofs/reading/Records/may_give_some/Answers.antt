use Rattle.std.proofs.Common.{◌∙◌}
use Rattle.dali_script.proofs.Giving.{goes_on_by}
use Rattle.dali_script.proofs.reading.Records.may_give_some.Goals as goal

pub returns : goal.returns
returns c =
    let k = c.args.self.now in
    let kept = c.reserved_for.ensures.kept in
    c.is_some.ensures ∙ goes_on_by k.block k.reserved c.args.random c.reserved_for.result kept.reserved kept.reserved_drawn kept.within
    c.reserved_for.ensures.value
