use Rattle.std.proofs.Common.{◌∙◌, Ok, Err, OnOk, subst}
use Rattle.std.specs.Prelude.{IfErr}
use Rattle.dali_commission_stores.proofs.Lent.{lent_well}
use Rattle.dali_commission_stores.specs.{Calls.AreMade, Lent.{IsLent, IsOpened, lent_calls}}
use Rattle.dali_commission_replaced.proofs.Cut.{lent_badly, done_well}
use Rattle.dali_commission_replaced.proofs.replacing.Replacing.renew.Goals as goal

pub returns-clause-lent : goal.returns-clause-lent
returns-clause-lent g c =
    subst (λ n. OnOk c.read.result (IsLent (IsOpened g.F.Open.Keep.block g.F.Stores.saw g.F.Stores.opens c.args.stores.now n c.args.block)
    (g.B.Borrower.came c.args.borrower) c.args.beside.now c.lend-done.new.beside (Ok (tt {0})))) (c.deref.ensures ∙ c.in_ok-new.ensures)
    (lent_well _ (g.B.Borrower.came c.args.borrower) _ _ c.lend-done.result c.or_say.result c.in_ok-or_say.field-0 c.read.result c.or_say.ensures.same
    c.in_ok-or_say.was c.lend-done.ensures.lent)

pub returns-clause-made : goal.returns-clause-made
returns-clause-made g c =
    subst (λ n. OnOk c.read.result (AreMade g.F.Stores.made (lent_calls n) c.args.stores.now c.lend-done.new.stores)) (c.deref.ensures ∙ c.in_ok-new.ensures)
    (done_well _ c.lend-done.result c.or_say.result c.in_ok-or_say.field-0 c.read.result c.or_say.ensures.same c.in_ok-or_say.was c.lend-done.ensures.made)

pub returns-clause-failed : goal.returns-clause-failed
returns-clause-failed g c =
    subst (λ n. IfErr c.read.result (λ e. IsLent (IsOpened g.F.Open.Keep.block g.F.Stores.saw g.F.Stores.opens c.args.stores.now n c.args.block)
    (g.B.Borrower.came c.args.borrower) c.args.beside.now c.lend-done.new.beside (Err e))) (c.deref.ensures ∙ c.in_ok-new.ensures)
    (lent_badly _ (g.B.Borrower.came c.args.borrower) _ _ c.lend-done.result c.read.result c.lend-done.ensures.lent)

pub returns-in_err-or_say-clause-failed : goal.returns-in_err-or_say-clause-failed
returns-in_err-or_say-clause-failed g c =
    subst (λ n. IfErr c.from_residual-in_err-or_say.result (λ e. IsLent (IsOpened g.F.Open.Keep.block g.F.Stores.saw g.F.Stores.opens c.args.stores.now n
    c.args.block) (g.B.Borrower.came c.args.borrower) c.args.beside.now c.lend-done.new.beside (Err e))) (c.deref.ensures ∙ c.in_ok-new.ensures)
    (lent_badly _ (g.B.Borrower.came c.args.borrower) _ _ c.lend-done.result c.from_residual-in_err-or_say.result c.lend-done.ensures.lent)
