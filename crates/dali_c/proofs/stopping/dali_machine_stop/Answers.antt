use Rattle.std.proofs.Common.{sym, ◌∙◌}
use Rattle.dali_c.proofs.{Hosts.refused, Stops.was_stopped}
use Rattle.dali_c.proofs.stopping.dali_machine_stop.Goals as goal

pub returns-in-None-clause-done : goal.returns-in-None-clause-done
returns-in-None-clause-done c m i holds = absurd (c.in-None.ensures m holds)

pub returns-in-Some-clause-no_machine : goal.returns-in-Some-clause-no_machine
returns-in-Some-clause-no_machine c none = absurd (none _ c.in-Some.ensures.machine)

pub returns-in-None-clause-not_due : goal.returns-in-None-clause-not_due
returns-in-None-clause-not_due c m i holds = absurd (c.in-None.ensures m holds)

pub returns-in-None-clause-bad : goal.returns-in-None-clause-bad
returns-in-None-clause-bad c m holds = absurd (c.in-None.ensures m holds)

pub returns-in-Some-clause-ok : goal.returns-in-Some-clause-ok
returns-in-Some-clause-ok c ok =
    was_stopped _ _ c.args.input c.args.byte _ _ _ c.in-Some.ensures.machine c.stop_on.ensures.done c.stop_on.ensures.not_due c.stop_on.ensures.bad ok

pub returns-in-None-clause-ok : goal.returns-in-None-clause-ok
returns-in-None-clause-ok c ok = refused c.args.machine.now (sym c.refusal.ensures ∙ ok)
