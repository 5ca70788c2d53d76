use Rattle.std.proofs.Common.{◌≡◌, inl, inr, Bool, true, false, not, Result, Ok, Err, OnOk, refl, sym, ap, ◌∙◌, codes, true≢false, is_some}
use Rattle.sqlite.specs.Schema.{Schema}
use Rattle.sqlite_schema.specs.Names.{table_named}
use Rattle.dali_sqlite.{specs.Table.record_schema, proofs.Texts.named}
use Rattle.dali_sqlite.proofs.table.ensure_table.Goals as goal

outside : (told within : Bool) → told ≡ not within → told ≡ true → within ≡ false
outside told true is heard = absurd (true≢false (sym heard ∙ is))
outside told false is heard = refl

if_ok : {A E : Type 0} (r : Result A E) (P Q : Type 0) → (P → Q) → OnOk r P → OnOk r Q
if_ok (Ok a) P Q f p = f p
if_ok (Err e) P Q f p = tt

-- a database of the table has it
never_missing : (schema : Schema) (found : Bool) → found ≡ is_some (table_named schema (codes "record")) → found ≡ false → schema ≡ record_schema → ⊥
never_missing schema found is none ours = true≢false (sym (is ∙ ap (λ s. is_some (table_named s (codes "record"))) ours ∙ ap is_some named.0) ∙ none)

pub returns-clause-has : goal.returns-clause-has
returns-clause-has g c up = if_ok c.create.result _ _ (λ made ours. elim ours [
  | inl none ↦ (made none (outside c.is_autocommit.result c.args.conn.now.in_transaction c.is_autocommit.ensures.value c.if-not-is_autocommit.false)).has
  | inr ours ↦ absurd (never_missing c.args.conn.now.schema c.has_table.result c.has_table.ensures c.if-has_table.false ours)
]) (c.create.ensures.made up.0)

pub returns-clause-same : goal.returns-clause-same
returns-clause-same g c up =
    if_ok c.create.result _ _ (λ made xs held. absurd (never_missing c.args.conn.now.schema c.has_table.result c.has_table.ensures c.if-has_table.false
    held.has.table)) (c.create.ensures.made up.0)
