use Rattle.std.proofs.Common.{inr, refl, sym}
use Rattle.dali_commission_replaced.proofs.Cut.{missing, missing_unheard, not_there}
use Rattle.dali_commission_replaced.proofs.confirming.Asking.others_there.Goals as goal

pub returns-then-has_heard-clause-failed : goal.returns-then-has_heard-clause-failed
returns-then-has_heard-clause-failed g c =
    inr (
      c.in-Ok.ensures.seen.0,
      _,
      c.in-Ok.ensures.seen.1,
      c.in-Ok.ensures.seen.2,
      inr (
        c.in-Ok-ask.ensures.heard.0,
        c.in-Ok-ask.ensures.heard.1,
        c.in-Ok-ask.ensures.heard.2,
        not_there c.are_there.result _ _ _ _ c.are_there.ensures c.if-are_there.false c.deref.ensures.value c.in-Ok-ask.ensures.heard.3,
        missing _ _ _ _ _ _ _ (sym c.if-has_heard.ensures) c.in-Ok-ask.ensures.heard.3 c.say_missing.ensures,
      ),
    )

pub returns-else-has_heard-clause-failed : goal.returns-else-has_heard-clause-failed
returns-else-has_heard-clause-failed g c =
    inr (
      c.in-Ok.ensures.seen.0,
      _,
      c.in-Ok.ensures.seen.1,
      c.in-Ok.ensures.seen.2,
      inr (
        c.in-Ok-ask.ensures.heard.0,
        c.in-Ok-ask.ensures.heard.1,
        c.in-Ok-ask.ensures.heard.2,
        not_there c.are_there.result _ _ _ _ c.are_there.ensures c.if-are_there.false c.deref.ensures.value c.in-Ok-ask.ensures.heard.3,
        missing_unheard _ _ _ _ _ refl (sym c.if-has_heard.ensures),
      ),
    )
