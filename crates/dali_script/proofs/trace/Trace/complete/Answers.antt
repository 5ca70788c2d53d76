use Rattle.dali_script.proofs.trace.Trace.complete.Goals as goal

pub returns-clause-complete : goal.returns-clause-complete
returns-clause-complete c = rw c.view.ensures.value at c.complete_by.ensures.complete
