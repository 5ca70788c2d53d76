use Rattle.std.proofs.Common.{◌∙◌, OnOk, subst}
use Rattle.dali_commission_stores.proofs.Lent.{lent_as}
use Rattle.dali_commission_stores.specs.{Calls.AreMade, Lent.lent_calls}
use Rattle.dali_commission_stores.proofs.records.lend.Goals as goal

pub returns-clause-lent : goal.returns-clause-lent
returns-clause-lent g c =
    lent_as _ _ (g.B.Borrower.came c.args.borrower) (g.B.Borrower.came c.args.borrower) _ _ _
    (λ k is. ((c.in_ok-seen.seen, c.in_ok-seen.ensures, is.0), is.1 ∙ c.in_ok-seen.ensures.6)) (λ from to p q done came. came) c.lend_seen.ensures.lent

pub returns-clause-made : goal.returns-clause-made
returns-clause-made g c =
    subst (λ n. OnOk c.lend_seen.result (AreMade g.F.Stores.made (lent_calls n) c.args.stores.now c.lend_seen.new.stores)) c.in_ok-seen.ensures.5
    c.lend_seen.ensures.made
