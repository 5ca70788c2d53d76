use Rattle.std.proofs.Common.{◌∙◌, refl, inl, inr}
use Rattle.dali_commission_replaced.proofs.Accepted.{accepted_so, cut_short, due_cut}
use Rattle.dali_commission_replaced.proofs.accepting.Accepting.accepts.Goals as goal

pub returns-clause-accepted : goal.returns-clause-accepted
returns-clause-accepted g c =
    accepted_so g.F.Open.Keep.kept g.F.Open.Keep.block g.F.Stores.made g.F.Stores.saw g.F.Stores.opens _ _ _ _ _ c.put_aside_if.new.stores
    c.in_ok-rest.rest c.in_ok-put_aside_if.ensures c.in_ok-rest.ensures.all _ c.in_ok-random.random c.table-2.result.now c.in_ok-first.first
    c.due.new.stores _ _ _ _ c.due.result c.in_ok-random.ensures.heard c.in_ok-others.ensures.asked c.in_ok-others.ensures.short
    (c.table-2.ensures ∙ c.in_ok-others.ensures.table)
    c.in_ok-first.ensures c.in_ok-are_behind.ensures c.due.ensures.renewed c.due.ensures.last

pub returns-clause-failed : goal.returns-clause-failed
returns-clause-failed g c =
    due_cut g.F.Open.Keep.kept g.F.Open.Keep.block g.F.Stores.made g.F.Stores.saw g.F.Stores.opens _ _ _ _ _ c.put_aside_if.new.stores
    c.in_ok-rest.rest c.in_ok-put_aside_if.ensures c.in_ok-rest.ensures.all _ _ _ _ c.in_ok-random.random c.table-2.result.now
    c.in_ok-first.first _ _ _ _ c.due.result c.in_ok-others.ensures.noted c.in_ok-random.ensures.heard c.in_ok-others.ensures.asked
    (c.table-2.ensures ∙ c.in_ok-others.ensures.table) c.in_ok-first.ensures
    (c.due.ensures.failed c.in_ok-others.ensures.short)

pub returns-in_err-random-clause-failed : goal.returns-in_err-random-clause-failed
returns-in_err-random-clause-failed g c =
    cut_short g.F.Open.Keep.kept g.F.Open.Keep.block g.F.Stores.made g.F.Stores.saw g.F.Stores.opens _ _ _ _ _ c.put_aside_if.new.stores
    c.in_ok-rest.rest c.in_ok-put_aside_if.ensures c.in_ok-rest.ensures.all _ _ _ _ _ _ c.in_err-random.field-0.0 c.from_residual-in_err-random.result
    c.from_residual-in_err-random.ensures.1 (inl (inl (c.in_err-random.ensures.failed, refl)))

pub returns-in_err-others-clause-failed : goal.returns-in_err-others-clause-failed
returns-in_err-others-clause-failed g c =
    cut_short g.F.Open.Keep.kept g.F.Open.Keep.block g.F.Stores.made g.F.Stores.saw g.F.Stores.opens _ _ _ _ _ c.put_aside_if.new.stores
    c.in_ok-rest.rest c.in_ok-put_aside_if.ensures c.in_ok-rest.ensures.all _ _ _ _ _ _ c.in_err-others.field-0.0 c.from_residual-in_err-others.result
    c.from_residual-in_err-others.ensures.1 (inl (inr (c.in_ok-random.random, _, c.in_ok-random.ensures.heard, c.in_err-others.ensures.failed)))

pub returns-in_err-first-clause-failed : goal.returns-in_err-first-clause-failed
returns-in_err-first-clause-failed g c =
    cut_short g.F.Open.Keep.kept g.F.Open.Keep.block g.F.Stores.made g.F.Stores.saw g.F.Stores.opens _ _ _ _ _ c.put_aside_if.new.stores
    c.in_ok-rest.rest c.in_ok-put_aside_if.ensures c.in_ok-rest.ensures.all _ _ _ _ _ _ c.in_err-first.field-0.0 c.from_residual-in_err-first.result
    c.from_residual-in_err-first.ensures.1
    (inr (c.in_ok-random.random, _, (_, c.in_ok-random.ensures.heard, c.in_ok-others.ensures.asked), inl refl, c.in_ok-others.ensures.noted))

pub returns-in_err-are_behind-clause-failed : goal.returns-in_err-are_behind-clause-failed
returns-in_err-are_behind-clause-failed g c =
    cut_short g.F.Open.Keep.kept g.F.Open.Keep.block g.F.Stores.made g.F.Stores.saw g.F.Stores.opens _ _ _ _ _ c.put_aside_if.new.stores
    c.in_ok-rest.rest c.in_ok-put_aside_if.ensures c.in_ok-rest.ensures.all _ _ _ _ _ _ c.in_err-are_behind.field-0.0 c.from_residual-in_err-are_behind.result
    c.from_residual-in_err-are_behind.ensures.1
    (inr (c.in_ok-random.random, _, (_, c.in_ok-random.ensures.heard, c.in_ok-others.ensures.asked), inl refl, c.in_ok-others.ensures.noted))
