use Rattle.std.proofs.Common.{◌⊎◌, inl, inr, [], arith}
use Rattle.sqlite.specs.Held.{state}
use Rattle.dali_sqlite.proofs.Effects.{selects_exactly, selects_found, selects_quietly}
use Rattle.dali_sqlite.proofs.{Open.was_up, Open.shown_open, Open.query_stays, Open.stays_open, Open.stays_holds, Texts.select_text}
use Rattle.dali_sqlite.proofs.statements.select.Goals as goal

or_never : {A B : Type 0} → A ⊎ B → (B → ⊥) → A
or_never (inl a) never = a
or_never (inr b) never = absurd (never b)

pub returns-in-Ok-clause-exact : goal.returns-in-Ok-clause-exact
returns-in-Ok-clause-exact g c clean =
    selects_exactly (state g.S.Store c.args.conn.now) (state g.S.Store c.query_all.new.self) c.in-Ok.rows.items (c.in-Ok.ensures.ok clean)

pub returns-in-Ok-clause-found : goal.returns-in-Ok-clause-found
returns-in-Ok-clause-found g c clean =
    selects_found (state g.S.Store c.args.conn.now) (state g.S.Store c.query_all.new.self) c.in-Ok.rows.items (c.in-Ok.ensures.ok clean)

pub returns-in-Ok-clause-same : goal.returns-in-Ok-clause-same
returns-in-Ok-clause-same g c up xs held =
    let old = state g.S.Store c.args.conn.now in
    let new = state g.S.Store c.query_all.new.self in
    let shown = c.in-Ok.ensures.ok up.0 in
    selects_found old new c.in-Ok.rows.items shown held.has xs (selects_exactly old new c.in-Ok.rows.items shown xs held)

pub returns-in-Ok-clause-up : goal.returns-in-Ok-clause-up
returns-in-Ok-clause-up g c = was_up _ _ _ c.query_all.ensures.survives (λ clean _. shown_open select_text [] _ _ _ (c.in-Ok.ensures.ok clean))

pub returns-in-Err-clause-same : goal.returns-in-Err-clause-same
returns-in-Err-clause-same g c up =
    stays_holds (state g.S.Store c.args.conn.now) (state g.S.Store c.query_all.new.self) (query_stays select_text [] _ _ _ (c.in-Err.ensures.err up.0)) up.1

pub returns-in-Err-clause-up : goal.returns-in-Err-clause-up
returns-in-Err-clause-up g c =
    was_up _ _ _ c.query_all.ensures.survives (λ clean. stays_open _ _ (query_stays select_text [] _ _ _ (c.in-Err.ensures.err clean)))

pub returns-in-Ok-clause-open : goal.returns-in-Ok-clause-open
returns-in-Ok-clause-open g c clean = (omega (arith, c.query_all.ensures.survives.clean, clean), shown_open select_text [] _ _ _ (c.in-Ok.ensures.ok clean))

-- a query commits nothing
pub returns-in-Ok-clause-crash : goal.returns-in-Ok-clause-crash
returns-in-Ok-clause-crash g c clean has trees left =
    or_never (c.query_all.ensures.survives.crash clean trees left) (selects_quietly (state g.S.Store c.args.conn.now) trees has.table)

pub returns-in-Err-clause-crash : goal.returns-in-Err-clause-crash
returns-in-Err-clause-crash g c clean has trees left =
    or_never (c.query_all.ensures.survives.crash clean trees left) (selects_quietly (state g.S.Store c.args.conn.now) trees has.table)
