use Rattle.std.proofs.Common.{refl, sym, subst}
use Rattle.dali_controller.specs.Machine.{Machine}
use Rattle.dali_c.specs.Progress.{IsProgress}
use Rattle.dali_c.proofs.progress.dali_machine_progress.Goals as goal

pub returns-in_default-clause-progress : goal.returns-in_default-clause-progress
returns-in_default-clause-progress c m holds = absurd (c.in_default.ensures m holds)

pub returns-clause-progress : goal.returns-clause-progress
returns-clause-progress c m holds =
    (refl, subst (λ (n : Machine). IsProgress c.of.result n) (sym (c.in-Some.ensures.once m holds)) c.of.ensures)

pub returns-clause-no_machine : goal.returns-clause-no_machine
returns-clause-no_machine c none = absurd (none _ c.in-Some.ensures.machine)
