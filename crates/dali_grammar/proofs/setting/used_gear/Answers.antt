use Rattle.std.proofs.Common.{rules, ◌≡◌, [], Err, IfErr, sym, subst, ◌∙◌}
use Rattle.dali_grammar.specs.{Lines.numbered_after, ReplayFault.fault_of, Setting.PlansNot, Setting.used_of}
use Rattle.dali_grammar.proofs.setting.used_gear.Goals as goal

pub returns-in_err-one-clause-refused : goal.returns-in_err-one-clause-refused
returns-in_err-one-clause-refused c =
    let same : c.from_residual.result ≡ Err c.in_err-one.field-0.0 = search rules in
    subst (λ r. IfErr r (λ stop. PlansNot (used_of [] (numbered_after c.args.script.now.read c.args.script.now.rest.now)) (fault_of stop))) (sym same) (
    subst (PlansNot (used_of [] (numbered_after c.args.script.now.read c.args.script.now.rest.now))) (sym c.in_err-one.ensures.refused.0)
    (c.loop-used.invariant.named ∙ c.in_err-one.ensures.refused.1 c.loop-used.used.items))
