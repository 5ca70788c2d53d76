use Rattle.std.proofs.Common.{rules, ◌≡◌, ◌+◌, ◌≤◌, ◌∙◌, arith}
use Rattle.std.specs.declared.option.Option.TheVariants.{None}
use Rattle.dali_line.proofs.{Learning.keeps_more, Learning.posts_more, Leaving.leaves_more, Running.runs_more, Running.runs_wider}
use Rattle.dali_line.proofs.worker.Shift.take_turns.Goals as goal

pub returns-in-Some-clause-keep : goal.returns-in-Some-clause-keep
returns-in-Some-clause-keep g c = leaves_more _ _ _ _ _ _ c.loop.invariant.keep c.take_turn.ensures.keep

pub returns-in-Some-clause-known : goal.returns-in-Some-clause-known
returns-in-Some-clause-known g c =
    keeps_more c.args.pass.now c.loop.pass c.take_turn.new.pass c.loop.invariant.known c.take_turn.ensures.known

pub returns-in-Some-clause-posted : goal.returns-in-Some-clause-posted
returns-in-Some-clause-posted g c =
    posts_more _ _ _ _ _ _ _ _ _ c.loop.invariant.keep c.take_turn.ensures.keep c.loop.invariant.posted c.take_turn.ensures.posted

pub returns-in-Some-clause-runs : goal.returns-in-Some-clause-runs
returns-in-Some-clause-runs g c =
    let wide : c.loop.counter + 1 ≤ c.args.turns = search rules in
    runs_wider _ _ _ _ _ _ _ _ _ _ _ _ _ (c.loop.counter + 1) _ c.in-Some.end c.in-Some.ensures.unspent wide
    (runs_more _ _ _ _ _ _ _ _ _ _ _ _ _ _ _ _ _ c.loop.counter 1 _ c.loop.invariant.keep c.in-Some.ensures.keep c.loop.invariant.runs
    c.in-Some.ensures.runs)

pub loop-preserved : goal.loop-preserved
loop-preserved g c =
    let inside = c.loop.invariant in
    let turn = c.take_turn.ensures in
    let least = turn.port.least in
    let before = inside.port.least in
    let most = turn.port.most in
    let at_most = inside.port.most in
    let none : c.take_turn.result ≡ None = search rules in
    record {
      port = record { controller = turn.port.controller ∙ inside.port.controller; least = omega arith; most = omega arith };
      keep = leaves_more _ _ _ _ _ _ inside.keep turn.keep;
      pass = turn.pass ∙ inside.pass;
      known = keeps_more c.args.pass.now c.loop.pass c.take_turn.new.pass inside.known turn.known;
      posted = posts_more _ _ _ _ _ _ _ _ _ inside.keep turn.keep inside.posted turn.posted;
      runs = runs_more _ _ _ _ _ _ _ _ _ _ _ _ _ _ _ _ _ c.loop.counter 1 _ inside.keep turn.keep inside.runs (rw none at turn.runs);
    }
