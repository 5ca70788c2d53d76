use Rattle.std.proofs.Common.{◌≡◌, Some, refl, sym, subst}
use Rattle.dali_controller.specs.Machine.{Machine}
use Rattle.dali_c.specs.Orders.{order_of, HasNoMore, IsSentSo}
use Rattle.dali_c.proofs.calls.dali_machine_last.Goals as goal

pub returns-in_default-clause-last : goal.returns-in_default-clause-last
returns-in_default-clause-last c m holds = absurd (c.in_default.ensures m holds)

pub returns-clause-last : goal.returns-clause-last
returns-clause-last c m holds =
    let x = c.of.result in
    let back = sym (c.in-Some.ensures.once m holds) in (
      refl,
      subst (λ (n : Machine). order_of x ≡ Some n.last) back c.of.ensures.spelled,
      subst (λ (n : Machine). HasNoMore x n.last) back c.of.ensures.more,
      subst (λ (n : Machine). IsSentSo x n.trace n.last) back (subst (λ t. IsSentSo x t c.in-Some.read.last) c.entries.ensures.value c.of.ensures.sent),
    )

pub returns-clause-no_machine : goal.returns-clause-no_machine
returns-clause-no_machine c none = absurd (none _ c.in-Some.ensures.machine)
