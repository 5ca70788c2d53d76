use Rattle.std.proofs.Common.{◌≤◌, arith}
use Rattle.dali_search.proofs.Blocks.{ones_below}
use Rattle.dali_search.proofs.ascent.Ascent.asked.Goals as goal

pub returns-then-self-lt-NONE-clause-fits : goal.returns-then-self-lt-NONE-clause-fits
returns-then-self-lt-NONE-clause-fits c =
    let most : c.apart.result ≤ 24 = c.apart.ensures.most in
    let low : c.self.inside.low ≤ 0xFFFFFF = c.self.invariant.low in
    rw c.with_ones.ensures
    (ones_below c.saturating_sub.result 24 c.self.inside.low (omega (arith, most, c.saturating_sub.ensures)) (omega (arith, low)))
