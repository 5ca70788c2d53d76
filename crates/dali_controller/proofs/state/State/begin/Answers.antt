use Rattle.std.proofs.Common.{◌∙◌, ap, refl}
use Rattle.dali_special.specs.Command.{frame_of}
use Rattle.dali_controller.{specs.Course.taking, specs.States.course_of, specs.States.machine_with, proofs.Legs.counted_leg, proofs.Steps.begun_by}
use Rattle.dali_controller.proofs.state.State.begin.Goals as goal

pub returns : goal.returns
returns c =
    begun_by (machine_with c.args.self.now c.args.kept.now) (taking (course_of c.args.self.now) c.args.purpose c.args.number) _ _ _ _ c.requires
    c.new-self.ensures refl (c.write-frame.ensures.table ∙ ap frame_of c.first.ensures) (counted_leg c.args.self.now.leg)
