use Rattle.std.proofs.Common.{◌∙◌}
use Rattle.dali_script.proofs.Giving.{give_some, give_none}
use Rattle.dali_script.proofs.reading.Records.may_give.Goals as goal

pub returns-in-Some : goal.returns-in-Some
returns-in-Some c =
    let k = c.args.self.now in
    let kept = c.reserved_for.ensures.kept in
    c.eq.ensures ∙ give_some k.block k.reserved c.args.random c.in-Some.reserved c.args.address kept.reserved kept.reserved_drawn kept.within
    c.in-Some.ensures.value

pub returns-in-None : goal.returns-in-None
returns-in-None c = give_none c.args.self.now.block c.args.self.now.reserved c.args.random c.args.address c.in-None.ensures.value
