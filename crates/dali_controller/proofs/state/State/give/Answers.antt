use Rattle.std.proofs.Common.{sym, ◌∙◌, subst}
use Rattle.dali_script.specs.Records.{Has}
use Rattle.dali_controller.{specs.States.machine_with, proofs.{Leaving.{withheld_left, withheld_searching, gives_masked}, Steps.sends_program}}
use Rattle.dali_controller.proofs.state.State.give.Goals as goal

pub leave-requires-clause-opened : goal.leave-requires-clause-opened
leave-requires-clause-opened c =
    withheld_searching (machine_with c.args.self.now c.args.kept.now) c.args.short c.value.result (sym c.is_withheld.ensures ∙ c.if-is_withheld.true)

pub leave-requires-clause-ungiven : goal.leave-requires-clause-ungiven
leave-requires-clause-ungiven c =
    withheld_left (machine_with c.args.self.now c.args.kept.now) c.args.number c.args.short c.value.result c.requires.kept c.requires.reserved c.value.ensures
    (sym c.is_withheld.ensures ∙ c.if-is_withheld.true)

pub put-requires-clause-sends : goal.put-requires-clause-sends
put-requires-clause-sends c =
    rw c.requires.heard.stage
    (sends_program c.args.kept.now c.args.self.now.number c.args.number c.args.self.now.purpose c.args.short c.value.result c.requires.kept
    c.requires.heard.arrived c.value.ensures (subst (λ n. Has c.args.kept.now.reserved (c.args.short, n)) (sym c.value.ensures) c.requires.reserved))

pub put-requires-clause-masked : goal.put-requires-clause-masked
put-requires-clause-masked c =
    gives_masked (machine_with c.args.self.now c.args.kept.now) c.args.number c.args.short c.value.result c.requires.heard c.requires.kept c.requires.reserved
    c.value.ensures (sym c.is_withheld.ensures ∙ c.if-is_withheld.false)
