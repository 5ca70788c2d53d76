use Rattle.std.proofs.Common.{[]}
use Rattle.sqlite.specs.Held.{state}
use Rattle.dali_sqlite.proofs.{Effects.creates, Open.was_up, Open.executes_open, Texts.create_text}
use Rattle.dali_sqlite.proofs.statements.create.Goals as goal

pub returns-in-Ok-clause-made : goal.returns-in-Ok-clause-made
returns-in-Ok-clause-made g c clean has autocommit =
    creates (state g.S.Store c.args.conn.now) (state g.S.Store c.execute-made.new.self) c.in-Ok.field-0 has autocommit (c.in-Ok.ensures.runs clean)

pub returns-in-Ok-clause-up : goal.returns-in-Ok-clause-up
returns-in-Ok-clause-up g c =
    was_up _ _ _ c.execute-made.ensures.survives (λ clean. executes_open create_text [] _ _ _ (c.execute-made.ensures.runs clean))

pub returns-in-Err-clause-up : goal.returns-in-Err-clause-up
returns-in-Err-clause-up g c =
    was_up _ _ _ c.execute-made.ensures.survives (λ clean. executes_open create_text [] _ _ _ (c.execute-made.ensures.runs clean))
