use Rattle.dali_sqlite.proofs.{Effects.asks_held, Effects.asks_open, Open.was_up}
use Rattle.dali_sqlite.proofs.statements.objects.Goals as goal

pub returns-clause-same : goal.returns-clause-same
returns-clause-same g c up = asks_held (λ rows. rows.items) _ _ c.query_all.result (c.query_all.ensures.ok up.0) (c.query_all.ensures.err up.0) up.1

pub returns-clause-up : goal.returns-clause-up
returns-clause-up g c = was_up _ _ _ c.query_all.ensures.survives (λ clean.
    asks_open (λ rows. rows.items) _ _ c.query_all.result (c.query_all.ensures.ok clean) (c.query_all.ensures.err clean))
