use Rattle.dali_controller.{specs.States.machine_with, proofs.Courses.followed_heard}
use Rattle.dali_controller.proofs.state.State.heard_at.Goals as goal

pub returns-clause-followed : goal.returns-clause-followed
returns-clause-followed c =
    followed_heard (machine_with c.args.self.now c.args.kept.now) (machine_with c.hear-stage.new.self c.args.kept.now)
    c.after.result c.args.frame c.args.heard c.requires.put c.hear-stage.ensures.told c.after.ensures.sent c.after.ensures.told c.after.ensures.another
    c.after.ensures.unconfirmed c.after.ensures.hunted c.after.ensures.called
