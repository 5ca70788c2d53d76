use Rattle.dali_events.proofs.Invariant.Agreeing.{tables_agree, tables_agree_in}
use Rattle.dali_events.proofs.laws.no_two_tables_disagree.Goals as goal

pub returns : goal.returns
returns c = record { safe = tables_agree; run = tables_agree_in }
