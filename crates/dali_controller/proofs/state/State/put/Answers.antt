use Rattle.std.proofs.Common.{refl}
use Rattle.dali_script.specs.Stages.{stage_of}
use Rattle.dali_controller.{specs.States.machine_with, proofs.Legs.counted_leg, proofs.Steps.put_next, proofs.Steps.put_whole}
use Rattle.dali_controller.proofs.state.State.put.Goals as goal

pub returns-clause-next : goal.returns-clause-next
returns-clause-next c =
    put_next (machine_with c.args.self.now c.args.kept.now) (stage_of c.args.self.now.trace)
    c.args.command _ _ c.requires.heard c.requires.sends c.requires.later c.requires.masked (counted_leg c.args.self.now.leg) refl c.write-frame.ensures.table

pub returns-clause-whole : goal.returns-clause-whole
returns-clause-whole c = put_whole (machine_with c.args.self.now c.args.kept.now) (stage_of c.args.self.now.trace)
    c.args.command _ _ c.requires.heard c.requires.sends c.write-frame.ensures.read
