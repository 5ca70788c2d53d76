use Rattle.dali_c.proofs.calls.dali_machine_table.Goals as goal

pub returns-in_default-clause-table : goal.returns-in_default-clause-table
returns-in_default-clause-table c m holds = absurd (c.in_default.ensures m holds)

pub returns-clause-no_machine : goal.returns-clause-no_machine
returns-clause-no_machine c none = absurd (none _ c.in-Some.ensures.machine)
