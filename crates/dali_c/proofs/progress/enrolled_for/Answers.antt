use Rattle.dali_controller.proofs.Courses.{address_is}
use Rattle.dali_c.proofs.progress.enrolled_for.Goals as goal

pub returns : goal.returns
returns c =
    address_is c.args.kept.now.enrolled c.args.random c.enrolled_for.result c.enrolled_for.ensures.kept.enrolled.random_once c.enrolled_for.ensures.value
