use Rattle.dali_commission_files.proofs.Frames.{broken}
use Rattle.dali_commission_files.proofs.log.is_broken.Goals as goal

pub returns : goal.returns
returns c =
    broken c.args.head.now c.args.size c.args.frames.now c.held.result _ c.held.ensures.holds c.held.ensures.torn c.begins_behind.ensures
