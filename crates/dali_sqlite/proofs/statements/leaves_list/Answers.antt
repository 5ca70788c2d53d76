use Rattle.std.proofs.Common.{sym, subst}
use Rattle.sqlite.specs.Held.{state}
use Rattle.dali_sqlite.{specs.Stored.IsTableOf, proofs.Schemas.committed_table}
use Rattle.dali_sqlite.proofs.statements.leaves_list.Goals as goal

pub returns : goal.returns
returns g c up xs held trees left =
    let conn = c.args.conn.now in
    let committed = sym (g.met.S.Store.settled conn.store trees up.1 left) in
    subst (λ t. IsTableOf t xs) committed (committed_table (state g.S.Store conn) xs up.1 c.schema.ensures.live held)
