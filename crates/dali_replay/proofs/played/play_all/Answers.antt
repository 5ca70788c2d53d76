use Rattle.std.proofs.Common.{◌≡◌, Err, ap, rules, string_bytes}
use Rattle.dali_grammar.specs.{Lines.numbered_after, ReplayFault.fault_of, ReplayFault.with_fault}
use Rattle.dali_replay.proofs.PlayedLemmas.{kept_none, all_kept, stops_all}
use Rattle.dali_replay.proofs.played.play_all.Goals as goal

pub loop-line-init : goal.loop-line-init
loop-line-init c = record {
  kept = kept_none _ _ _ _ _;
  first = rw c.deref.ensures.value at c.events_in-first.ensures;
  range = c.requires;
}

pub returns-in_err-event : goal.returns-in_err-event
returns-in_err-event c =
    let same : c.from_residual.result ≡ Err c.in_err-event.field-0.0 = search rules in
    let is : with_fault c.from_residual.result ≡ Err (fault_of c.in_err-event.field-0.0) = ap with_fault same in
    stops_all c.args.player.now _ c.play.new.self _ _ (numbered_after c.loop-line.script.read c.loop-line.script.rest.now)
    (numbered_after c.next.new.self.read c.next.new.self.rest.now) _ _ _ _ _ _ _ _ _ (string_bytes c.loop-line.reports)
    (string_bytes c.play.new.text) c.number-number.result c.in-Some.line.now (fault_of c.in_err-event.field-0.0) _ is
    c.loop-line.invariant.kept (rw c.number-number.ensures c.in-Some.ensures.line) c.in_err-event.ensures

pub returns : goal.returns
returns c = all_kept _ _ _ _ _ _ _ _ _ _ c.loop-line.invariant.kept c.in_default.ensures.line
