use Rattle.std.proofs.Common.{◌≡◌, Err, rules, zero-add}
use Rattle.dali_grammar.specs.ReplayFault.{fault_of}
use Rattle.dali_grammar.specs.declared.fault.Stop.TheVariants as stop
use Rattle.dali_replay.proofs.PlayedLemmas.{played_by, stops_by, stops_want, stops_unplanned}
use Rattle.dali_replay.proofs.played.Played.of.Goals as goal

pub returns-in_err-is_bench-clause-stops : goal.returns-in_err-is_bench-clause-stops
returns-in_err-is_bench-clause-stops c =
    let is : c.from_residual.result ≡ Err c.in_err-is_bench.field-0.0 = search rules in
    rw is (stops_unplanned _ (fault_of c.in_err-is_bench.field-0.0)
    (rw (c.new-script.ensures.read, c.new-script.ensures.rest, zero-add) at c.in_err-is_bench.ensures.refused))

pub returns-in_err-player-clause-stops : goal.returns-in_err-player-clause-stops
returns-in_err-player-clause-stops c =
    let is : c.from_residual-in_err-player.result ≡ Err stop.Memory = search rules in
    rw is (stops_want _)

pub returns-in_err-play-clause-stops : goal.returns-in_err-play-clause-stops
returns-in_err-play-clause-stops c =
    let is : c.from_residual-in_err-play.result ≡ Err c.in_err-play.field-0.0 = search rules in
    rw is (stops_by _ c.in_ok-is_bench.is_bench c.in_ok-is_bench.plan _ c.in_ok-player.player (fault_of c.in_err-play.field-0.0)
    (rw (c.new-script.ensures.read, c.new-script.ensures.rest, zero-add) at c.in_ok-is_bench.ensures.planned)
    c.in_ok-player.ensures c.in_err-play.ensures.stops)

pub returns-clause-played : goal.returns-clause-played
returns-clause-played c =
    played_by _ c.in_ok-is_bench.is_bench c.in_ok-is_bench.plan _ c.in_ok-player.player c.in_ok-played.played _
    (rw (c.new-script.ensures.read, c.new-script.ensures.rest, zero-add) at c.in_ok-is_bench.ensures.planned)
    c.in_ok-player.ensures c.in_ok-played.ensures.of c.in_ok-play.ensures.same c.in_ok-play.ensures.played
