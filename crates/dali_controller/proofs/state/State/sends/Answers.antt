use Rattle.std.proofs.Common.{◌≡◌, false, true, sym, ◌∙◌}
use Rattle.dali_controller.{specs.Machine.Machine, specs.States.machine_with, proofs.Sending.sends_allowed, proofs.Sending.sends_refused}
use Rattle.dali_controller.proofs.state.State.sends.Goals as goal

pub returns-then-allows_by : goal.returns-then-allows_by
returns-then-allows_by c =
    let w : Machine = (machine_with c.args.self.now c.args.kept.now) in
    sends_allowed w.course.way w.kept w.course.number w.course.search w.course.ascent w.course.opened w.course.purpose w.trace c.args.frame c.chooses.result
    c.block.ensures.kept.reserved c.requires.knows (c.allows_by.ensures.lawful.0 c.if-allows_by.true)
    (rw (← c.stage-stage.ensures, ← c.read-command.ensures.table) c.chooses.ensures)

pub returns-else-allows_by : goal.returns-else-allows_by
returns-else-allows_by c =
    let w : Machine = (machine_with c.args.self.now c.args.kept.now) in
    rw c.if-allows_by.false (sends_refused w.kept w.course.number w.course.purpose w.trace c.args.frame
    (λ l. let no : false ≡ true = sym c.if-allows_by.false ∙ c.allows_by.ensures.lawful.1 l in cc))
