use Rattle.dali_audit_program.proofs.Appending.{tells}
use Rattle.dali_audit_program.proofs.telling.audit_through.Goals as goal

pub returns-clause-told : goal.returns-clause-told
returns-clause-told g c =
    tells _ c.args.asked c.in-Ok.items.items c.deref.result.now _ _ _ c.in_ok-is_clean.is_clean c.in-Ok.ensures.items c.deref.ensures.value
    c.in_ok-is_clean.ensures c.in_ok-flush.ensures.bytes
