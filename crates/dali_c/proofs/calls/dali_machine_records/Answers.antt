use Rattle.dali_c.proofs.calls.dali_machine_records.Goals as goal

pub returns-in_default-clause-records : goal.returns-in_default-clause-records
returns-in_default-clause-records c m holds = absurd (c.in_default.ensures m holds)

pub returns-clause-no_machine : goal.returns-clause-no_machine
returns-clause-no_machine c none = absurd (none _ c.in-Some.ensures.machine)
