use Rattle.std.proofs.Common.{refl}
use Rattle.dali_commission_replaced.proofs.Accepted.{unput, dues_noted}
use Rattle.dali_commission_replaced.proofs.accepting.AcceptingHolderSession.take.Goals as goal

pub returns-in_err-are_unannounced : goal.returns-in_err-are_unannounced
returns-in_err-are_unannounced g c =
    unput g.F.Open.Keep.kept g.F.Open.Keep.block g.F.Stores.made g.F.Stores.saw g.F.Stores.opens g.R.Read.remaining g.W.Write.contents _ _ _ _ _ _ _ _
    c.from_residual.result c.from_residual.ensures.0 refl

pub returns : goal.returns
returns g c =
    dues_noted g.F.Open.Keep.kept g.F.Open.Keep.block g.F.Stores.made g.F.Stores.saw g.F.Stores.opens g.R.Read.remaining g.W.Write.contents
    _ _ _ _ _ _ _ _ _ _ _ c.accepts-heard.result c.note_lines.result c.note_lines.ensures.ended c.in_ok-are_unannounced.ensures
    c.accepts-heard.ensures.due c.accepts-heard.ensures.accepted c.accepts-heard.ensures.noted c.accepts-heard.ensures.failed
    c.note_lines.ensures.report
