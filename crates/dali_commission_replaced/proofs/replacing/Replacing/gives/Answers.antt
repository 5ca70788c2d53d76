use Rattle.std.proofs.lemmas.Bool.{false≢true}
use Rattle.std.proofs.Common.{Result, Err, refl, inl}
use Rattle.dali_commission_said.specs.declared.failure.Failure.{Failure}
use Rattle.dali_commission_replaced.proofs.Cut.{without_others, without_first, ends_cut, ends_due}
use Rattle.dali_commission_replaced.proofs.Given.{planned, replaced_so}
use Rattle.dali_commission_replaced.proofs.replacing.Replacing.gives.Goals as goal

pub returns-then-has_address-clause-replaced : goal.returns-then-has_address-clause-replaced
returns-then-has_address-clause-replaced g c =
    replaced_so g.F.Open.Keep.is_up g.F.Open.Keep.is_sound g.F.Open.Keep.holds g.F.Open.Keep.kept g.F.Open.Keep.block g.F.Stores.made g.F.Stores.saw
    g.F.Stores.opens g.R.Read.remaining g.W.Write.contents _ _ _ _ _ _ _ _ _ c.due.new.stores
    c.args.driver.now c.others_there.new.driver c.first.new.driver c.due.new.driver c.in_ok-first.first c.due.result
    (planned g.F.Stores.made g.F.Stores.saw _ _ _ _ _ _ _ _ c.put_aside_if.new.stores c.in_ok-put_aside_if.ensures
    c.in_ok-plan.ensures.giver c.in_ok-plan.ensures.come c.in_ok-plan.ensures.all c.in_ok-plan.ensures.known)
    c.in_ok-others.ensures.asked c.in_ok-others.ensures.short c.in_ok-others.ensures.come c.in_ok-others.ensures.table c.in_ok-first.ensures.gave
    (c.if-has_address.ensures.0 refl) c.due.ensures.renewed c.due.ensures.last

pub returns-then-has_address-clause-failed : goal.returns-then-has_address-clause-failed
returns-then-has_address-clause-failed g c =
    ends_cut g.F.Open.Keep.is_up g.F.Open.Keep.is_sound g.F.Open.Keep.holds g.F.Open.Keep.kept g.F.Open.Keep.block g.F.Stores.made g.F.Stores.saw
    g.F.Stores.opens g.R.Read.remaining g.W.Write.contents _ _ _ _ _ _ _ _ _ _ _
    c.args.driver.now c.others_there.new.driver c.first.new.driver c.due.new.driver c.in_ok-first.first c.due.result
    (planned g.F.Stores.made g.F.Stores.saw _ _ _ _ _ _ _ _ c.put_aside_if.new.stores c.in_ok-put_aside_if.ensures
    c.in_ok-plan.ensures.giver c.in_ok-plan.ensures.come c.in_ok-plan.ensures.all c.in_ok-plan.ensures.known) c.in_ok-others.ensures.noted
    c.in_ok-others.ensures.asked c.in_ok-others.ensures.short c.in_ok-others.ensures.come c.in_ok-others.ensures.table c.in_ok-first.ensures.gave
    (ends_due g.F.Open.Keep.kept g.F.Open.Keep.block g.F.Stores.made g.F.Stores.saw g.F.Stores.opens _ _ _ c.in_ok-first.first _ _ _ c.due.result
    (c.if-has_address.ensures.0 refl) (c.due.ensures.failed c.in_ok-others.ensures.short))

pub returns-else-has_address-clause-failed : goal.returns-else-has_address-clause-failed
returns-else-has_address-clause-failed g c =
    let refused : Result (Unit {0}) Failure = Err c.not_given.result in
    ends_cut g.F.Open.Keep.is_up g.F.Open.Keep.is_sound g.F.Open.Keep.holds g.F.Open.Keep.kept g.F.Open.Keep.block g.F.Stores.made g.F.Stores.saw
    g.F.Stores.opens g.R.Read.remaining g.W.Write.contents _ _ _ _ _ _ _ _ _ _ _
    c.args.driver.now c.others_there.new.driver c.first.new.driver c.not_given.new.driver c.in_ok-first.first refused
    (planned g.F.Stores.made g.F.Stores.saw _ _ _ _ _ _ _ _ c.put_aside_if.new.stores c.in_ok-put_aside_if.ensures
    c.in_ok-plan.ensures.giver c.in_ok-plan.ensures.come c.in_ok-plan.ensures.all c.in_ok-plan.ensures.known) c.in_ok-others.ensures.noted
    c.in_ok-others.ensures.asked c.in_ok-others.ensures.short c.in_ok-others.ensures.come c.in_ok-others.ensures.table c.in_ok-first.ensures.gave
    (inl (λ has. false≢true (c.if-has_address.ensures.1 has), c.not_given.ensures))

pub returns-in_err-others-clause-failed : goal.returns-in_err-others-clause-failed
returns-in_err-others-clause-failed g c =
    without_others g.F.Open.Keep.is_up g.F.Open.Keep.is_sound g.F.Open.Keep.holds g.F.Open.Keep.kept g.F.Open.Keep.block g.F.Stores.made g.F.Stores.saw
    g.F.Stores.opens g.R.Read.remaining g.W.Write.contents _ _ _ _ _ _ _ c.args.driver.now
    c.others_there.new.driver c.in_err-others.field-0.0 c.from_residual-in_err-others.result
    (planned g.F.Stores.made g.F.Stores.saw _ _ _ _ _ _ _ _ c.put_aside_if.new.stores c.in_ok-put_aside_if.ensures
    c.in_ok-plan.ensures.giver c.in_ok-plan.ensures.come c.in_ok-plan.ensures.all c.in_ok-plan.ensures.known)
    c.from_residual-in_err-others.ensures.1 c.in_err-others.ensures.failed

pub returns-in_err-first-clause-failed : goal.returns-in_err-first-clause-failed
returns-in_err-first-clause-failed g c =
    without_first g.F.Open.Keep.is_up g.F.Open.Keep.is_sound g.F.Open.Keep.holds g.F.Open.Keep.kept g.F.Open.Keep.block g.F.Stores.made g.F.Stores.saw
    g.F.Stores.opens g.R.Read.remaining g.W.Write.contents _ _ _ _ _ _ _ _ _
    c.args.driver.now c.others_there.new.driver c.first.new.driver c.in_err-first.field-0.0 c.first.result c.from_residual-in_err-first.result
    (planned g.F.Stores.made g.F.Stores.saw _ _ _ _ _ _ _ _ c.put_aside_if.new.stores c.in_ok-put_aside_if.ensures
    c.in_ok-plan.ensures.giver c.in_ok-plan.ensures.come c.in_ok-plan.ensures.all c.in_ok-plan.ensures.known) c.in_ok-others.ensures.noted
    c.from_residual-in_err-first.ensures.1 c.in_err-first.was c.in_ok-others.ensures.asked c.in_ok-others.ensures.come c.in_ok-others.ensures.table
    (c.first.ensures.failed c.in_ok-others.ensures.short)
