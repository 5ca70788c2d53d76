use Rattle.std.proofs.Common.{[], inr, subst}
use Rattle.dali_commission_stores.specs.Lent.{AreRead}
use Rattle.dali_commission_replaced.proofs.Cut.{confirmed_badly}
use Rattle.dali_commission_replaced.proofs.finishing.confirms.Goals as goal

pub returns-clause-failed : goal.returns-clause-failed
returns-clause-failed g c =
    inr (confirmed_badly g.F.Stores.saw g.R.Read.remaining g.W.Write.contents _ _ _ _ c.read_all.new.tables.items _
    c.args.session.now.driver c.heard-heard.new.driver c.args.session.now.report c.heard-heard.new.report c.note_lines.new.self
    c.although_exchanged.result c.in-Err.failure c.heard-heard.result c.note_lines.result c.although_exchanged.ensures c.in-Err.is c.note_lines.ensures.ended
    c.deref.ensures.value
    (subst (λ l. AreRead g.F.Stores.saw c.args.stores.now l [] c.read_all.new.tables.items) c.names.ensures
    (subst (λ b. AreRead g.F.Stores.saw c.args.stores.now c.names.result.now b c.read_all.new.tables.items) c.new-tables.ensures.items
    c.in_ok-read_all.ensures)) c.heard-heard.ensures.failed c.note_lines.ensures.report)
