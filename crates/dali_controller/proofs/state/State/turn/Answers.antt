use Rattle.dali_controller.{specs.States.machine_with, proofs.Courses.put_moment}
use Rattle.dali_controller.proofs.state.State.turn.Goals as goal

pub returns-clause-moment : goal.returns-clause-moment
returns-clause-moment c =
    let put = c.put.ensures in
    put_moment (machine_with c.args.self.now c.args.kept.now) c.args.stage.now c.args.command _ _ c.requires.heard.stage c.requires.turn put.order put.course
    put.next put.whole
