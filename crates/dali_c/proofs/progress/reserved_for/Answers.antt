use Rattle.dali_controller.proofs.Courses.{address_is}
use Rattle.dali_c.proofs.progress.reserved_for.Goals as goal

pub returns : goal.returns
returns c =
    address_is c.args.kept.now.reserved c.args.random c.reserved_for.result c.reserved_for.ensures.kept.reserved.random_once c.reserved_for.ensures.value
