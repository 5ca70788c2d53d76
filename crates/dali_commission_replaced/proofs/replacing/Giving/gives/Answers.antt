use Rattle.std.proofs.Common.{refl, subst}
use Rattle.dali_commission_said.specs.Said.{AreTold}
use Rattle.dali_commission_replaced.proofs.Given.{given_so, not_read}
use Rattle.dali_commission_replaced.proofs.replacing.Giving.gives.Goals as goal

pub returns-in_err-kept : goal.returns-in_err-kept
returns-in_err-kept g c =
    not_read _ _ _ _ _ _ _ _ _ _ _ _ _ c.in-Ok.pass c.from_residual.result c.from_residual.ensures.0 c.in-Ok.ensures.given refl

pub returns : goal.returns
returns g c =
    given_so _ _ _ _ _ _ _ _ _ _ _ _ _ c.in-Ok.pass c.pass-pass.result c.in_ok-kept.kept _ c.in-Ok-ask_at_last.last c.aim.result
    c.ended_said.result.items c.given_as.result c.in-Ok.ensures.given c.in_ok-kept.ensures.read c.in-Ok-ask_at_last.ensures.asked c.pass-pass.ensures
    c.ended_said.ensures.said (subst (AreTold (g.S.Voice.told c.args.self.now.system.now)) c.deref.ensures.0 c.say_all.ensures) c.given_as.ensures
