use Rattle.std.proofs.Common.{rules, ◌+◌, ◌≤◌, arith}
use Rattle.dali_line.proofs.Driving.{drives_more, drives_wider}
use Rattle.dali_line.proofs.pumper.Pumper.run.Goals as goal

pub returns-in-Ok-false-clause-drives : goal.returns-in-Ok-false-clause-drives
returns-in-Ok-false-clause-drives g c =
    let wide : c.loop.counter + 1 ≤ c.args.turns = search rules in
    drives_wider g.B.Bus.pumped g.B.Bus.is_stuck g.B.Bus.lapsed _ _ (c.loop.counter + 1) _ wide
    (drives_more g.B.Bus.pumped g.B.Bus.is_stuck g.B.Bus.lapsed _ _ _ c.loop.counter c.loop.invariant.2 c.take_turn.ensures.drives)

pub returns-in-Err-clause-drives : goal.returns-in-Err-clause-drives
returns-in-Err-clause-drives g c =
    let wide : c.loop.counter + 1 ≤ c.args.turns = search rules in
    drives_wider g.B.Bus.pumped g.B.Bus.is_stuck g.B.Bus.lapsed _ _ (c.loop.counter + 1) _ wide
    (drives_more g.B.Bus.pumped g.B.Bus.is_stuck g.B.Bus.lapsed _ _ _ c.loop.counter c.loop.invariant.2 c.take_turn.ensures.drives)

pub loop-preserved : goal.loop-preserved
loop-preserved g c =
    let inside = c.loop.invariant in
    let least = c.take_turn.ensures.least in
    let most = c.take_turn.ensures.most in
    (omega arith, omega arith, drives_more g.B.Bus.pumped g.B.Bus.is_stuck g.B.Bus.lapsed _ _ _ c.loop.counter inside.2 c.take_turn.ensures.drives)
