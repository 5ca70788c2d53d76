use Rattle.std.proofs.Common.{arith}
use Rattle.dali_replay.proofs.RoundLemmas.{rounds_more, counts_one, ran_over, ran_refused}
use Rattle.dali_replay.proofs.rounds.rounds.Goals as goal

pub returns-in-Over : goal.returns-in-Over
returns-in-Over c =
    ran_over c.args.installation.now c.loop-played.installation c.play_round.new.installation c.args.limit c.loop-played.played c.loop-played.frames
    c.in_ok-sent.field-0 _ _ _
    c.loop-played.invariant.rounds c.loop-played-test.true c.in-Over.is c.in_ok-sent.ensures

pub returns-in-Refused : goal.returns-in-Refused
returns-in-Refused c =
    ran_refused c.args.installation.now c.loop-played.installation c.play_round.new.installation c.args.limit c.loop-played.played c.loop-played.frames
    c.in_ok-sent.field-0 _ _ _
    c.loop-played.invariant.rounds c.loop-played-test.true c.in-Refused.is c.in_ok-sent.ensures

pub loop-played-preserved : goal.loop-played-preserved
loop-played-preserved c =
    let one = counts_one c.in-Played.sent c.count-frames.result c.count-frames.ensures in
    let few = c.loop-played.invariant.few in
    let below = c.loop-played-test.true in
    record {
      rounds = rounds_more c.args.installation.now c.loop-played.installation c.play_round.new.installation c.loop-played.played c.loop-played.frames
          c.count-frames.result c.in-Played.sent c.in_ok-sent.field-0 _ _ _
          c.loop-played.invariant.rounds c.count-frames.ensures c.in-Played.is c.in_ok-sent.ensures;
      few = omega arith;
      most = omega arith;
    }
