use Rattle.std.proofs.Common.{sym, ◌==◌}
use Rattle.dali_grammar.proofs.ClueLemmas.{none_next, pair_at}
use Rattle.dali_grammar.proofs.reason.clue.drawn_twice.Goals as goal

pub returns-in-Some : goal.returns-in-Some
returns-in-Some c = sym (pair_at (λ draw other. draw == other) c.args.draws.now c.loop-index.index 0 c.loop-index-test.true (sym c.in-Some.ensures.there))

pub loop-index-preserved : goal.loop-index-preserved
loop-index-preserved c = none_next (λ draw other. draw == other) c.args.draws.now c.loop-index.index 0 c.loop-index-test.true c.loop-index.invariant
    (sym c.in_default.ensures.there)
