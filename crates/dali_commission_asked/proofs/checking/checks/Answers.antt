use Rattle.dali_commission_asked.proofs.Checked.{check_of}
use Rattle.dali_commission_asked.proofs.checking.checks.Goals as goal

pub returns-in-Some : goal.returns-in-Some
returns-in-Some g c =
    rw c.in-Some.is
    (check_of g.F.Copy.Keep.is_up g.F.Copy.Keep.is_sound g.F.Copy.Keep.holds g.F.Copy.Keep.block g.F.Stores.saw g.R.Read.remaining g.W.Write.contents
    (g.S.Voice.told c.args.system.now) c.args.others.now c.args.stores.now c.in-Some.name.now c.args.session.now c.lend_copy.new.beside
    c.lend_copy.result c.lend_copy.ensures)
