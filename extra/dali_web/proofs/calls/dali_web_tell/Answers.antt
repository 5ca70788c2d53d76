use Rattle.dali_web.proofs.calls.dali_web_tell.Goals as goal

pub returns-clause-done : goal.returns-clause-done
returns-clause-done c done =
    rw (c.hand_out.ensures.wrote done, c.deref.ensures.value)
    (rw (c.new-written.ensures.items, c.hand_out.ensures.done done) at c.tell_run-ended.ensures)
