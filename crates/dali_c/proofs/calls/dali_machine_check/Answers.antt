use Rattle.dali_c.proofs.calls.dali_machine_check.Goals as goal

pub returns-in-Some-clause-no_machine : goal.returns-in-Some-clause-no_machine
returns-in-Some-clause-no_machine c none = absurd (none _ c.in-Some.ensures.machine)

pub returns-in-None-clause-held : goal.returns-in-None-clause-held
returns-in-None-clause-held c m holds = absurd (c.in-None.ensures m holds)
