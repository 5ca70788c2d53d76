use Rattle.std.proofs.Common.{inl, inr, pos, w64, [], ◌∷◌, ◌++◌, sym, subst}
use Rattle.std.proofs.lemmas.Int.{to_z-of_z}
use Rattle.sqlite.specs.Held.{state}
use Rattle.dali_sqlite.{specs.Stored.IsTableOf, proofs.Effects.adds}
use Rattle.dali_sqlite.proofs.{Effects.stops, Effects.endures, Open.was_up, Open.executes_open, Open.executes_stays, Open.stays_holds, Texts.insert_text}
use Rattle.dali_sqlite.proofs.statements.insert.Goals as goal

pub returns-in-Ok-clause-added : goal.returns-in-Ok-clause-added
returns-in-Ok-clause-added g c clean xs x is held =
    let old = state g.S.Store c.args.conn.now in
    let new = state g.S.Store c.execute-added.new.self in
    adds old new c.in-Ok.field-0 c.args.seq (pos c.args.kind) (pos c.args.address) (pos c.args.random) xs x is
    (rw (c.params-to_sql.ensures, c.params-to_sql-2.ensures, c.params-to_sql-3.ensures, c.params-to_sql-4.ensures, to_z-of_z w64 c.args.seq c.ranges.seq) at
    (c.in-Ok.ensures.runs clean)) held

pub returns-in-Ok-clause-crash : goal.returns-in-Ok-clause-crash
returns-in-Ok-clause-crash g c clean xs x is held trees left = elim (c.execute-added.ensures.survives.crash clean trees left) [
  | inl before ↦ inl before
  | inr more ↦
      inr (stops (state g.S.Store c.args.conn.now) c.args.seq (pos c.args.kind) (pos c.args.address) (pos c.args.random) xs x is held trees
      (rw (c.params-to_sql.ensures, c.params-to_sql-2.ensures, c.params-to_sql-3.ensures, c.params-to_sql-4.ensures, to_z-of_z w64 c.args.seq c.ranges.seq)
      at more))
]

pub returns-in-Ok-clause-durable : goal.returns-in-Ok-clause-durable
returns-in-Ok-clause-durable g c clean xs x is held trees left =
    let old = state g.S.Store c.args.conn.now in
    let new = state g.S.Store c.execute-added.new.self in
    let kept = endures old new c.in-Ok.field-0 c.args.seq (pos c.args.kind) (pos c.args.address) (pos c.args.random) xs x is
    (rw (c.params-to_sql.ensures, c.params-to_sql-2.ensures, c.params-to_sql-3.ensures, c.params-to_sql-4.ensures, to_z-of_z w64 c.args.seq c.ranges.seq) at
    (c.in-Ok.ensures.runs clean)) held in
    subst (λ t. IsTableOf t (xs ++ x ∷ [])) (sym (g.met.S.Store.settled c.execute-added.new.self.store trees kept.0 left)) kept.1

pub returns-in-Ok-clause-up : goal.returns-in-Ok-clause-up
returns-in-Ok-clause-up g c = was_up _ _ _ c.execute-added.ensures.survives (λ clean. executes_open insert_text _ _ _ _ (c.execute-added.ensures.runs clean))

pub returns-in-Err-clause-same : goal.returns-in-Err-clause-same
returns-in-Err-clause-same g c up =
    stays_holds (state g.S.Store c.args.conn.now) (state g.S.Store c.execute-added.new.self)
    (executes_stays insert_text _ _ _ _ (c.in-Err.ensures.runs up.0)) up.1

pub returns-in-Err-clause-crash : goal.returns-in-Err-clause-crash
returns-in-Err-clause-crash g c clean xs x is held trees left = elim (c.execute-added.ensures.survives.crash clean trees left) [
  | inl before ↦ inl before
  | inr more ↦
      inr (stops (state g.S.Store c.args.conn.now) c.args.seq (pos c.args.kind) (pos c.args.address) (pos c.args.random) xs x is held trees
      (rw (c.params-to_sql.ensures, c.params-to_sql-2.ensures, c.params-to_sql-3.ensures, c.params-to_sql-4.ensures, to_z-of_z w64 c.args.seq c.ranges.seq)
      at more))
]

pub returns-in-Err-clause-up : goal.returns-in-Err-clause-up
returns-in-Err-clause-up g c = was_up _ _ _ c.execute-added.ensures.survives (λ clean. executes_open insert_text _ _ _ _ (c.execute-added.ensures.runs clean))
