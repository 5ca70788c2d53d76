use Rattle.std.proofs.Common.{◌≡◌, Err, ap, rules, zero-add}
use Rattle.dali_grammar.specs.{ReplayFault.fault_of, ReplayFault.with_fault, declared.fault.ReplayFault.TheVariants.Memory}
use Rattle.dali_grammar.specs.declared.fault.Stop.TheVariants as stop
use Rattle.dali_replay.proofs.{PlayerLemmas.replays_all, ReplayLemmas.replays_no_plan, ReplayLemmas.replays_want}
use Rattle.dali_replay.proofs.replay.replay.Goals as goal

pub returns-in_err-is_bench : goal.returns-in_err-is_bench
returns-in_err-is_bench g c =
    let is : c.from_residual.result ≡ Err c.in_err-is_bench.field-0.0 = search rules in
    rw is (replays_no_plan (Unit {0}) _ _ _ (fault_of c.in_err-is_bench.field-0.0)
    (rw (c.new-script.ensures.read, c.new-script.ensures.rest, zero-add) at c.in_err-is_bench.ensures.refused))

pub returns-in_err-player : goal.returns-in_err-player
returns-in_err-player g c =
    let same : c.from_residual-in_err-player.result ≡ Err stop.Memory = search rules in
    let is : with_fault c.from_residual-in_err-player.result ≡ Err Memory = ap with_fault same in
    replays_want _ _ _ _ is

pub returns : goal.returns
returns g c =
    replays_all _ _ c.in_ok-is_bench.is_bench c.in_ok-is_bench.plan _ c.in_ok-player.player _ _ (with_fault c.play.result)
    (rw (c.new-script.ensures.read, c.new-script.ensures.rest, zero-add) at c.in_ok-is_bench.ensures.planned)
    c.in_ok-player.ensures c.play.ensures
