use Rattle.std.proofs.Common.{◌≡◌, Ok, Err, ap, rules, string_bytes}
use Rattle.dali_grammar.specs.{Lines.numbered_after, ReplayFault.fault_of, ReplayFault.with_fault, declared.fault.ReplayFault.TheVariants.Memory}
use Rattle.dali_grammar.specs.declared.fault.Stop.TheVariants as stop
use Rattle.dali_replay.proofs.PlayerLemmas.{leads_more, plays_end, plays_fault, plays_want}
use Rattle.dali_replay.proofs.replay.play.Goals as goal

pub returns-in_err-play : goal.returns-in_err-play
returns-in_err-play g c =
    let same : c.from_residual.result ≡ Err c.in_err-play.field-0.0 = search rules in
    let is : with_fault c.from_residual.result ≡ Err (fault_of c.in_err-play.field-0.0) = ap with_fault same in
    c.loop-line.invariant.leads _ _
    (plays_fault _ c.loop-line.player c.play.new.self c.number.result c.in-Some.line.now (string_bytes c.clear.new.self)
    (string_bytes c.play.new.text) (numbered_after c.loop-line.script.read c.loop-line.script.rest.now)
    (numbered_after c.next.new.self.read c.next.new.self.rest.now) (fault_of c.in_err-play.field-0.0) _ _ is c.in_err-play.ensures
    (rw c.number.ensures c.in-Some.ensures.line))

pub returns-in_err-put_in_form : goal.returns-in_err-put_in_form
returns-in_err-put_in_form g c =
    let same : c.from_residual-in_err-put_in_form.result ≡ Err stop.Memory = search rules in
    let is : with_fault c.from_residual-in_err-put_in_form.result ≡ Err Memory = ap with_fault same in
    c.loop-line.invariant.leads _ _ (plays_want _ _ _ _ _ is)

pub loop-line-preserved : goal.loop-line-preserved
loop-line-preserved g c =
    let text : string_bytes c.play.new.text ≡ c.in_ok-play.ensures.0 = rw c.clear.ensures.bytes at c.in_ok-play.ensures.1 in
    let wrote = rw (c.number-in-Some.ensures, text) at c.in_ok-put_in_form.ensures in
    record {
      leads = leads_more _ _ _ _ _ _ _ _ _ _ _ c.in-Some.line.now c.in_ok-play.ensures.0 _ c.loop-line.invariant.leads
          c.in-Some.ensures.line c.in_ok-play.ensures.2 (rw (c.as_bytes.ensures.value, wrote) at c.in-Ok.ensures.bytes);
      range = c.next.ensures.range;
    }

pub returns : goal.returns
returns g c = c.loop-line.invariant.leads _ (Ok tt) (plays_end _ _ _ _ c.in_default.ensures.line)
