use Rattle.dali_commission_replaced.proofs.Accepted.{accepted, accepted_before, not_accepted, not_confirmed}
use Rattle.dali_commission_replaced.proofs.accepting.accepts.Goals as goal

pub returns-clause-accepted : goal.returns-clause-accepted
returns-clause-accepted g c = (
  _,
  accepted g.F.Open.Keep.kept g.F.Open.Keep.block g.F.Stores.made g.F.Stores.saw g.F.Stores.opens g.R.Read.remaining g.W.Write.contents
      (g.S.Voice.told c.args.system.now) c.args.wanted.now g.F.Stores.began c.args.records.now c.in_ok-names.names.items _ _ _ _ c.in_ok-swap.field-0
      c.args.stores.now c.exchanged.new.stores c.hold.new.self c.args.session.now c.hold.new.beside c.note_first.new.report _ _ c.in_ok-done.done
      c.in_ok-names.ensures c.deref.ensures.value (c.in_ok-are_apart.ensures.0 c.if-not-branch.false) c.deref-2.ensures.value c.in_ok-swap.ensures.finished
      c.in_default.is c.deref-4.ensures.value c.deref-5.ensures.value c.in_ok-done.ensures c.deref-6.ensures.value c.say_confirmed.ensures
      c.deref-7.ensures.value c.note_first.ensures,
)

pub returns-in_err-done-clause-failed : goal.returns-in_err-done-clause-failed
returns-in_err-done-clause-failed g c =
    not_accepted g.F.Open.Keep.kept g.F.Open.Keep.block g.F.Stores.made g.F.Stores.saw g.F.Stores.opens g.R.Read.remaining g.W.Write.contents
    (g.S.Voice.told c.args.system.now) c.args.wanted.now g.F.Stores.began _ c.args.records.now c.in_ok-names.names.items _ _ _ _ c.in_ok-swap.field-0
    c.args.stores.now c.exchanged.new.stores c.hold.new.self _ _ c.in_err-done.field-0.0 c.hold.result c.from_residual-in_err-done.result
    c.from_residual-in_err-done.ensures.1 c.in_err-done.was c.in_ok-names.ensures c.deref.ensures.value
    (c.in_ok-are_apart.ensures.0 c.if-not-branch.false) c.deref-2.ensures.value c.in_ok-swap.ensures.finished c.in_default.is c.deref-4.ensures.value
    c.deref-5.ensures.value c.hold.ensures

pub returns-in-Some-clause-accepted : goal.returns-in-Some-clause-accepted
returns-in-Some-clause-accepted g c = (
  _,
  accepted_before g.F.Open.Keep.kept g.F.Open.Keep.block g.F.Stores.made g.F.Stores.saw g.F.Stores.opens g.R.Read.remaining g.W.Write.contents
      (g.S.Voice.told c.args.system.now) c.args.wanted.now c.args.records.now c.in_ok-names.names.items _ _ c.in_ok-swap.field-0 c.in-Some.swap _
      c.args.stores.now c.exchanged.new.stores c.args.session.now c.confirms.new.session _ c.in_ok-names.ensures c.deref.ensures.value
      (c.in_ok-are_apart.ensures.0 c.if-not-branch.false) c.deref-2.ensures.value c.in_ok-swap.ensures.finished c.in-Some.is c.in_ok-_heard.ensures.confirmed
      c.in_ok-_heard.ensures.noted c.note_read.ensures,
)

pub returns-in_err-_heard-clause-failed : goal.returns-in_err-_heard-clause-failed
returns-in_err-_heard-clause-failed g c =
    not_confirmed g.F.Open.Keep.kept g.F.Open.Keep.block g.F.Stores.made g.F.Stores.saw g.F.Stores.opens g.R.Read.remaining g.W.Write.contents
    (g.S.Voice.told c.args.system.now) c.args.wanted.now g.F.Stores.began c.args.records.now c.in_ok-names.names.items _ _ c.in_ok-swap.field-0
    c.in-Some.swap c.args.stores.now c.exchanged.new.stores _ _ c.in_err-_heard.field-0.0 c.confirms.result c.from_residual-in_err-_heard.result
    c.from_residual-in_err-_heard.ensures.1 c.in_err-_heard.was c.in_ok-names.ensures c.deref.ensures.value
    (c.in_ok-are_apart.ensures.0 c.if-not-branch.false) c.deref-2.ensures.value c.in_ok-swap.ensures.finished c.in-Some.is c.confirms.ensures.failed
