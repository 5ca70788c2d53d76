use Rattle.std.proofs.Common.{Result, Err}
use Rattle.dali_commission_said.specs.declared.failure.Failure.{Failure}
use Rattle.dali_commission_replaced.proofs.Cut.{not_heard, not_due}
use Rattle.dali_commission_replaced.proofs.replacing.Replacing.due.Goals as goal

pub returns-in_err-confirmed-clause-failed : goal.returns-in_err-confirmed-clause-failed
returns-in_err-confirmed-clause-failed g c =
    not_heard g.F.Open.Keep.kept g.F.Open.Keep.block g.F.Stores.made g.F.Stores.saw g.F.Stores.opens _ _ _ _ c.args.first.now
    c.args.stores.now c.renew_all.new.stores _ c.renew_all.new.news.items c.deref.result.now _ _
    c.in_err-confirmed.field-0.0 c.from_residual-in_err-confirmed.result
    c.from_residual-in_err-confirmed.ensures.1 c.deref.ensures.value c.new-news.ensures.items
    c.in_ok-renew_all.ensures c.in_err-confirmed.ensures.failed

pub returns-in_err-number-clause-failed : goal.returns-in_err-number-clause-failed
returns-in_err-number-clause-failed g c =
    not_due g.F.Open.Keep.kept g.F.Open.Keep.block g.F.Stores.made g.F.Stores.saw g.F.Stores.opens _ _ _ _ c.args.first.now
    c.args.stores.now c.renew_all.new.stores _ c.renew_all.new.news.items c.deref.result.now _ _ _ c.from_residual-in_err-number.result
    c.deref.ensures.value c.new-news.ensures.items c.in_ok-renew_all.ensures c.in_ok-confirmed.ensures.given c.in_ok-confirmed.ensures.heard

pub returns-in_err-copied_names-clause-failed : goal.returns-in_err-copied_names-clause-failed
returns-in_err-copied_names-clause-failed g c =
    not_due g.F.Open.Keep.kept g.F.Open.Keep.block g.F.Stores.made g.F.Stores.saw g.F.Stores.opens _ _ _ _ c.args.first.now
    c.args.stores.now c.renew_all.new.stores _ c.renew_all.new.news.items c.deref.result.now _ _ _ c.from_residual-in_err-copied_names.result
    c.deref.ensures.value c.new-news.ensures.items c.in_ok-renew_all.ensures c.in_ok-confirmed.ensures.given c.in_ok-confirmed.ensures.heard

pub returns-in-Err-clause-failed : goal.returns-in-Err-clause-failed
returns-in-Err-clause-failed g c =
    let refused : Result (Unit {0}) Failure = Err c.refusal.result in
    not_due g.F.Open.Keep.kept g.F.Open.Keep.block g.F.Stores.made g.F.Stores.saw g.F.Stores.opens _ _ _ _ c.args.first.now
    c.args.stores.now c.renew_all.new.stores _ c.renew_all.new.news.items c.deref.result.now _ _ _ refused
    c.deref.ensures.value c.new-news.ensures.items c.in_ok-renew_all.ensures c.in_ok-confirmed.ensures.given c.in_ok-confirmed.ensures.heard
