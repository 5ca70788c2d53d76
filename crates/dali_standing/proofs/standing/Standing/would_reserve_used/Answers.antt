use Rattle.dali_standing.{specs.Standing.machine_in, proofs.Done.act_answers, proofs.InUse.reserves_alone}
use Rattle.dali_standing.proofs.standing.Standing.would_reserve_used.Goals as goal

pub returns-clause-no : goal.returns-clause-no
returns-clause-no c false_is may =
    c.reserves_used.ensures.no false_is
    (reserves_alone c.args.used.now (machine_in c.args.self.now.machines c.args.c) c.args.input c.would_order.result
    (act_answers _ _ c.args.c c.args.input c.would_order.result _ c.self.view_is c.requires.up c.index.ensures c.would_order.ensures) may)
